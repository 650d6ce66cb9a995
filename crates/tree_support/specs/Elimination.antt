-- Legal eliminations: leaves are given up one after the other, each for a reason that holds for one of its systems at that moment.
use Rattle.std.specs.Prelude.{◌≡◌, ◌⊎◌, ℕ, ◌+◌, ◌<◌, ◌==◌, ℤ, pos, List, [], ◌∷◌, length, All, Contains, Bool, true, if◌then◌else◌, ⊤}
use Rattle.linear_cons.specs.declared.row.RowKind.{RowKind}
use Rattle.integer_point.specs.Hard.{IsHard}
use Rattle.decision_tree.specs.declared.rank.Rank.{Ghosts as Ranks}
use Rattle.decision_tree.specs.declared.reason.Cause.{Cause}
use Rattle.decision_tree.specs.declared.reason.Cause.TheVariants as cause
use Rattle.decision_tree.specs.Plans.{Plan, bottom, top, leaf, branch, leaves_of}
use Rattle.decision_tree.specs.Paths.{leaf_numbered, with_leaf}
use Rattle.tree_support.specs.declared.dropped.Dropped.{Dropped}
use Rattle.constraint_stack.specs.declared.reason.Reason.{Reason}
use Rattle.constraint_stack.specs.declared.reason.Reason.TheVariants.{Point, Wide as TooWide, Rows}
use Rattle.tree_support.specs.Setting.{Setting, Trees}
use Rattle.constraint_stack.specs.Claims.{System, choices}
use Rattle.constraint_stack.specs.Reasons.{Justifies, rows_of}
use Rattle.tree_support.specs.Systems.{systems}

-- the cause that a leaf given up for a reason has
abbrev pub cause_of : Reason → Cause
cause_of (Point num den) = cause.Point num den
cause_of (TooWide operands) = cause.Wide operands
cause_of (Rows count) = cause.Rows count

-- the family with the leaf given up
abbrev pub without_dropped : {R : Type 0} → Trees R → Dropped → Trees R
without_dropped family dropped label =
    if label == dropped.label then with_leaf (family label) dropped.leaf (top (cause_of dropped.reason)) else family label

-- the family in which the leaves outside the set are undefined
abbrev pub restricted : {R : Type 0} → (ℕ → Bool) → Plan R → Plan R
restricted keeps (branch row this that) =
    branch row (restricted keeps this) (restricted (λ place. keeps (leaves_of this + place)) that)
restricted keeps bottom = bottom
restricted keeps (top cause) = if keeps 0 then top cause else bottom
restricted keeps (leaf why rank) = if keeps 0 then leaf why rank else bottom

abbrev pub within : {R : Type 0} → (ℕ → ℕ → Bool) → Trees R → Trees R
within set family label = restricted (set label) (family label)

-- the drop shows a point
abbrev pub IsByPoint : Dropped → Type 0
IsByPoint dropped = (num : List ℤ) × (den : ℤ) × (dropped.reason ≡ Point num den)

module _ {R : Type 0} (ranks : Ranks R) where
  -- the leaf may be given up: its reason holds for one of its systems, of the edge that is named
  pub record IsDrop (at : Setting R) (family : Trees R) (dropped : Dropped) : Type 0 where
    pub leaf_in : dropped.leaf < leaves_of (family dropped.label)
    pub system : System R
    pub system_in : Contains (systems at family dropped.label dropped.leaf) system
    pub edge : system.edge ≡ dropped.edge
    pub justified : Justifies ranks dropped.reason system

  -- The drops, one after the other, lead from the one family to the other. Nothing else of it changes; a leaf that is given up has no systems
  -- any more, so none is given up twice.
  abbrev pub Eliminates : Setting R → Trees R → List Dropped → Trees R → Type 0
  Eliminates at old [] new = (label : ℕ) → new label ≡ old label
  Eliminates at old (dropped ∷ rest) new = IsDrop at old dropped × Eliminates at (without_dropped old dropped) rest new

  -- splits tell of each system of the leaf whether a store meets it
  abbrev pub IsTold : Setting R → Trees R → ℕ → ℕ → Type 0
  IsTold at family label place =
      (system : System R) → Contains (systems at family label place) system
      → (choice : List RowKind) → Contains (choices ranks system.claim) choice
      → IsHard (rows_of ranks system choice) ⊎ (4086 < length (rows_of ranks system choice)) → ⊥

  -- each drop of a leaf of the set shows a point, when splits tell of the leaf's systems
  abbrev pub AreTold : Setting R → (ℕ → ℕ → Bool) → Trees R → List Dropped → Type 0
  AreTold at set family [] = ⊤
  AreTold at set family (dropped ∷ rest) =
      (set dropped.label dropped.leaf ≡ true → IsByPoint dropped × IsTold at family dropped.label dropped.leaf)
      × AreTold at set (without_dropped family dropped) rest

-- the drop is of another leaf than this one
abbrev pub IsElsewhere : ℕ → ℕ → Dropped → Type 0
IsElsewhere label place dropped = ¬ ((dropped.label ≡ label) × (dropped.leaf ≡ place))

-- the drop shows a store
abbrev pub IsByStore : Dropped → Type 0
IsByStore dropped = (store : List ℤ) × (dropped.reason ≡ Point store (pos 1))

-- each drop of a leaf of the set is such
abbrev pub EachOfSet : (ℕ → ℕ → Bool) → (Dropped → Type 0) → List Dropped → Type 0
EachOfSet set Is drops = All (λ dropped. set dropped.label dropped.leaf ≡ true → Is dropped) drops

-- each leaf of the set stands in the new family as in the old
abbrev pub KeepsSet : {R : Type 0} → (ℕ → ℕ → Bool) → Trees R → Trees R → Type 0
KeepsSet set old new =
    (label place : ℕ) → place < leaves_of (old label) → set label place ≡ true
    → leaf_numbered (new label) place ≡ leaf_numbered (old label) place
