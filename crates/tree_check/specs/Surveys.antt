-- The leaves of a label's tree, one after the other.
use Rattle.std.specs.Prelude.{◌≡◌, ◌≢◌, ◌⊎◌, ℕ, ◌+◌, ◌<◌, ◌≤◌, Bool, true, false, List, [], ◌++◌, map, All, AllPairs, Option, None, Some}
use Rattle.linear_cons.specs.declared.affine.Affine.{Affine}
use Rattle.decision_tree.specs.declared.rank.Rank.{Ghosts as Ranks}
use Rattle.decision_tree.specs.Paths.{leaf_numbered, path_of}
use Rattle.decision_tree.specs.Plans.{Plan, leaves_of}
use Rattle.constraint_stack.specs.Forming.{Formed, given}
use Rattle.tree_support.specs.Setting.{Setting, Trees}
use Rattle.constraint_stack.specs.Claims.{HasNoStore, System}
use Rattle.tree_support.specs.Systems.{of_leaf, systems}
use Rattle.constraint_stack.specs.Stacks.{IsMetNowhere, all_asked}
use Rattle.constraint_stack.specs.Searches.{Finds}
use Rattle.tree_check.specs.declared.survey.Refuted.{Refuted}
use Rattle.tree_check.specs.declared.survey.Span.{Span}

-- a survey goes on behind these leaves: it collects, or none was refuted yet
abbrev pub LooksOn : Span → List Refuted → Type 0
LooksOn span refuted = (span.collects ≡ true) ⊎ (refuted ≡ [])

-- a narrowed survey doesn't look there: no store meets the path with what is asked within
abbrev pub IsBeyond : Bool → List Formed → List Affine → Type 0
IsBeyond false within path = ⊥
IsBeyond true within path = IsMetNowhere (all_asked (within ++ map (λ a. given a) path))

-- the refuted leaf is another than the one with the number
abbrev pub IsAside : ℕ → Refuted → Type 0
IsAside number refuted = refuted.leaf ≢ number

-- the refuted leaves are told apart by their numbers, each of which is greater than those before it
abbrev pub AreApart : List Refuted → Type 0
AreApart refuted = AllPairs (λ earlier later. earlier.leaf < later.leaf) refuted

module _ {R : Type 0} (ranks : Ranks R) (at : Setting R) (family : Trees R) (label : ℕ) where
  -- the systems of the leaf with the number, behind what is asked before the tree
  abbrev pub systems_within : Plan R → List Formed → ℕ → List (System R)
  systems_within plan asks place = of_leaf at (leaf_numbered plan place) family label (asks ++ map (λ a. given a) (path_of plan place))

  -- the leaf is one of the tree, before which so many were passed, and there is a reason against it
  abbrev pub IsFoundWithin : Plan R → List Formed → ℕ → Refuted → Type 0
  IsFoundWithin plan asks passed refuted =
      (place : ℕ) × (refuted.leaf ≡ passed + place) × (place < leaves_of plan) × Finds ranks (systems_within plan asks place) refuted.finding

  -- The survey of a tree before which so many leaves were passed: it listed leaves with a reason against them, and where it goes on no store
  -- meets a system of another from the first on, unless it doesn't look there.
  pub record IsSurveyed (span : Span) (plan : Plan R) (asks within : List Formed) (passed : ℕ) (old new : List Refuted) : Type 0 where
    pub more : List Refuted
    pub listed : new ≡ old ++ more
    pub each : All (IsFoundWithin plan asks passed) more
    pub apart : AreApart more
    pub others : LooksOn span new → (place : ℕ) → place < leaves_of plan → span.first ≤ passed + place → All (IsAside (passed + place)) more
        → All (HasNoStore ranks) (systems_within plan asks place) ⊎ IsBeyond span.narrows within (path_of plan place)

  -- there is a reason against the leaf of the label's own tree
  abbrev pub IsFound : Refuted → Type 0
  IsFound refuted = (refuted.leaf < leaves_of (family label)) × Finds ranks (systems at family label refuted.leaf) refuted.finding

  -- the same of the label's own tree
  pub record IsReviewed (span : Span) (within : List Formed) (refuted : List Refuted) : Type 0 where
    pub each : All IsFound refuted
    pub apart : AreApart refuted
    pub others : LooksOn span refuted → (place : ℕ) → place < leaves_of (family label) → span.first ≤ place → All (IsAside place) refuted
        → All (HasNoStore ranks) (systems at family label place) ⊎ IsBeyond span.narrows within (path_of (family label) place)

  -- the leaf is the first from a number on with a reason against it, or there is none
  abbrev pub IsFirst : ℕ → Option Refuted → Type 0
  IsFirst first None = (place : ℕ) → place < leaves_of (family label) → first ≤ place → All (HasNoStore ranks) (systems at family label place)
  IsFirst first (Some refuted) = IsFound refuted
