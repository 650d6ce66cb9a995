-- The shapes of trees moved back over an assignment and over a step that changes nothing, before they are trimmed, and beside each where
-- the functions and ranks that it forms fit. Each defined leaf says of which next states it speaks.
use Rattle.std.specs.Prelude.{ℕ, Bool, ⊤}
use Rattle.linear_cons.specs.Functions.{SubstitutionFits, substituted}
use Rattle.linear_cons.specs.Rows.{row_kind_of}
use Rattle.linear_cons.specs.declared.affine.Affine.{Affine}
use Rattle.linear_cons.specs.declared.row.RowKind.{RowKind}
use Rattle.linear_cons.specs.declared.row.RowKind.TheVariants.{Always, Never, Row as Kept}
use Rattle.decision_tree.specs.Nodes.{node}
use Rattle.decision_tree.specs.Plans.{Plan, branch, leaf}
use Rattle.decision_tree.specs.declared.rank.Rank.{Ghosts as Ranks}
use Rattle.decision_tree.specs.declared.reason.Pick.{Pick}
use Rattle.decision_tree.specs.declared.reason.Pick.TheVariants.{All as EveryState}
use Rattle.decision_tree.specs.declared.reason.Why.TheVariants.{Step}
use Rattle.tree_unify.specs.Builds.{Build, formed}

-- a leaf of that rank, for the next states that are picked, or for every one
abbrev pub step_by : {R : Type 0} → Pick → R → Plan R
step_by pick rank = leaf (Step pick) rank

abbrev pub step_to : {R : Type 0} → R → Plan R
step_to rank = step_by EveryState rank

-- the constraint asked: one that always or never holds is decided at once
abbrev pub asked : {R : Type 0} → (R → R → Bool) → RowKind → Plan R → Plan R → Plan R
asked same Always this that = this
asked same Never this that = that
asked same (Kept row) this that = node same row this that

-- what is asked of the sides that stand
abbrev pub AskedFits : RowKind → Type 0 → Type 0 → Type 0
AskedFits Always This That = This
AskedFits Never This That = That
AskedFits (Kept row) This That = This × That

module _ {R : Type 0} (same : R → R → Bool) (one_more : R → R) where
  -- one more step at each leaf that is defined, for the next states that are picked
  abbrev pub stepped_by : Pick → Plan R → Plan R
  stepped_by pick (branch row this that) = node same row (stepped_by pick this) (stepped_by pick that)
  stepped_by pick (leaf why rank) = step_by pick (one_more rank)
  stepped_by pick end = end

  -- for every one
  abbrev pub stepped : Plan R → Plan R
  stepped plan = stepped_by EveryState plan

-- each rank that it forms fits
abbrev pub StepFits : {R : Type 0} → (R → Type 0) → Plan R → Type 0
StepFits more_fits (branch row this that) = StepFits more_fits this × StepFits more_fits that
StepFits more_fits (leaf why rank) = more_fits rank
StepFits more_fits end = ⊤

module _ {R : Type 0} (same : R → R → Bool) (put : R → ℕ → Affine → R) (one_more : R → R) where
  -- a function put in for the variable at a place, in rows and ranks, and one more step at each leaf that is defined, for the next states
  -- that are picked
  abbrev pub assigned_by : Pick → ℕ → Affine → Plan R → Plan R
  assigned_by pick place by (branch row this that) =
      asked same (row_kind_of (substituted row.affine place by)) (assigned_by pick place by this) (assigned_by pick place by that)
  assigned_by pick place by (leaf why rank) = step_by pick (one_more (put rank place by))
  assigned_by pick place by end = end

  -- for every one
  abbrev pub assigned : ℕ → Affine → Plan R → Plan R
  assigned place by plan = assigned_by EveryState place by plan

module _ {R : Type 0} (put : R → ℕ → Affine → R) (put_fits : R → ℕ → Affine → Type 0) (more_fits : R → Type 0) where
  -- each function and each rank that it forms fits
  abbrev pub AssignFits : ℕ → Affine → Plan R → Type 0
  AssignFits place by (branch row this that) =
      SubstitutionFits row.affine place by
      × AskedFits (row_kind_of (substituted row.affine place by)) (AssignFits place by this) (AssignFits place by that)
  AssignFits place by (leaf why rank) = put_fits rank place by × more_fits (put rank place by)
  AssignFits place by end = ⊤

-- ---- what is made on the way

module _ {R : Type 0} (same : R → R → Bool) (ranks : Ranks R) (pick : Pick) where
  -- the tree before a step that changes nothing
  abbrev pub stepping : Plan R → Build R
  stepping plan = formed (stepped_by same ranks.one_more pick plan) (StepFits ranks.add_one_fits plan)

  -- the tree before an assignment
  abbrev pub assigning : ℕ → Affine → Plan R → Build R
  assigning place by plan =
      formed (assigned_by same ranks.substituted ranks.one_more pick place by plan) (AssignFits ranks.substituted ranks.subst_fits ranks.add_one_fits place by plan)
