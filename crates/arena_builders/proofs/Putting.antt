-- What stands before an assignment, by what the row of a node becomes.
use Rattle.std.proofs.Common.{◌≡◌, ℕ, Bool, List, Result}
use Rattle.linear_cons.specs.Functions.{SubstitutionFits, substituted}
use Rattle.linear_cons.specs.Rows.{row_kind_of}
use Rattle.linear_cons.specs.declared.affine.Affine.{Affine}
use Rattle.linear_cons.specs.declared.row.Row.{Row}
use Rattle.linear_cons.specs.declared.row.RowKind.TheVariants.{Always, Never, Row as Kept}
use Rattle.decision_tree.specs.Nodes.{node}
use Rattle.decision_tree.specs.Plans.{Plan, branch}
use Rattle.decision_tree.specs.declared.rank.Rank.{Ghosts as Ranks}
use Rattle.decision_tree.specs.declared.reason.Pick.{Pick}
use Rattle.tree_unify.specs.Builds.{formed}
use Rattle.tree_unify.specs.declared.walk.Stopped.{Stopped}
use Rattle.tree_unify.specs.declared.walk.Walk.{Walk}
use Rattle.tree_arena.specs.declared.node.TreeRef.{TreeRef}
use Rattle.backward_transfer.specs.Steps.{assigning}
use Rattle.arena_builders.specs.BuildsIn.{BuildsIn}
use Rattle.arena_builders.proofs.BuildingIn.{asked_of}

module _ {R : Type 0} (same : R → R → Bool) (ranks : Ranks R) (pick : Pick) (place : ℕ) (by : Affine) (row : Row) (this that : Plan R)
    {start new : List (Plan R)} {way : List Row} {walk : Walk} (result : Result TreeRef Stopped) where
  pub as_always : row_kind_of (substituted row.affine place by) ≡ Always → SubstitutionFits row.affine place by
      → BuildsIn (assigning same ranks pick place by this) start new way walk result
      → BuildsIn (assigning same ranks pick place by (branch row this that)) start new way walk result
  as_always kind put built = rw kind
      (asked_of (assigning same ranks pick place by this).plan (assigning same ranks pick place by this).Fits
      (SubstitutionFits row.affine place by × (assigning same ranks pick place by this).Fits) (λ fits. (put, fits)) (λ fits. fits.1) result built)

  pub as_never : row_kind_of (substituted row.affine place by) ≡ Never → SubstitutionFits row.affine place by
      → BuildsIn (assigning same ranks pick place by that) start new way walk result
      → BuildsIn (assigning same ranks pick place by (branch row this that)) start new way walk result
  as_never kind put built = rw kind
      (asked_of (assigning same ranks pick place by that).plan (assigning same ranks pick place by that).Fits
      (SubstitutionFits row.affine place by × (assigning same ranks pick place by that).Fits) (λ fits. (put, fits)) (λ fits. fits.1) result built)

  pub as_kept : (moved : Row) → row_kind_of (substituted row.affine place by) ≡ Kept moved
      → BuildsIn (formed (node same moved (assigning same ranks pick place by this).plan (assigning same ranks pick place by that).plan)
      (SubstitutionFits row.affine place by × ((assigning same ranks pick place by this).Fits × (assigning same ranks pick place by that).Fits))) start new way walk result
      → BuildsIn (assigning same ranks pick place by (branch row this that)) start new way walk result
  as_kept moved kind built = rw kind built
