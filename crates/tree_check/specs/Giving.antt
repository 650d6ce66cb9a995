-- The leaves of a tree that a survey found, given up in one walk over it.
use Rattle.std.specs.Prelude.{◌≡◌, ℕ, ◌+◌, ◌-◌, ◌<◌, ◌≤◌, List, [], ◌∷◌, ◌++◌, All, drop, length, map, slice_index_or}
use Rattle.decision_tree.specs.Paths.{with_leaf}
use Rattle.decision_tree.specs.Plans.{Plan, leaves_of, top}
use Rattle.tree_support.specs.declared.dropped.Dropped.{Dropped}
use Rattle.tree_support.specs.Elimination.{cause_of}
use Rattle.tree_check.specs.declared.survey.Refuted.{Refuted}
use Rattle.tree_check.specs.Rounds.{dropped_by}

-- of the found leaves none from the number on was passed
abbrev pub AreToCome : List Refuted → ℕ → ℕ → Type 0
AreToCome found passed next = (d : Refuted) → next < length found → passed ≤ (slice_index_or found next d).leaf

-- the leaf is one of so many behind those that were passed
abbrev pub IsAmong : ℕ → ℕ → Refuted → Type 0
IsAmong passed count refuted = (passed ≤ refuted.leaf) × (refuted.leaf < passed + count)

module _ {R : Type 0} where
  -- a tree, before which so many leaves were passed, without the leaves
  abbrev pub without_each : Plan R → ℕ → List Refuted → Plan R
  without_each plan passed [] = plan
  without_each plan passed (refuted ∷ more) =
      without_each (with_leaf plan (refuted.leaf - passed) (top (cause_of refuted.finding.reason))) passed more

  -- Those found leaves that are the tree's were given up up to some number, in turn, and listed.
  pub record IsWalked (label : ℕ) (found : List Refuted) (passed : ℕ) (old new : Plan R) (next to : ℕ) (drops longer : List Dropped) : Type 0 where
    pub given : List Refuted
    pub parted : drop next found ≡ given ++ drop to found
    pub among : All (IsAmong passed (leaves_of old)) given
    pub without : new ≡ without_each old passed given
    pub listed : longer ≡ drops ++ map (dropped_by label) given
