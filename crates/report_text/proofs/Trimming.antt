-- What holds of each row and each leaf of a tree holds of those of the tree trimmed.
use Rattle.std.proofs.Common.{Bool, true, false, cond, List, [], ◌∷◌, ◌++◌, Option, None, Some}
use Rattle.linear_cons.specs.Rows.{complement}
use Rattle.linear_cons.specs.Settling.{settles}
use Rattle.linear_cons.specs.declared.row.Row.{Row}
use Rattle.decision_tree.specs.Equality.{same_plan}
use Rattle.decision_tree.specs.Nodes.{node}
use Rattle.decision_tree.specs.Plans.{Plan, bottom, branch, leaf, top}
use Rattle.tree_unify.specs.Shapes.{on_side, trimmed}

module _ {R : Type 0} (same : R → R → Bool) (Fits : Plan R → Type 0) (OfRow : Row → Type 0)
    (split : (row : Row) (this that : Plan R) → Fits (branch row this that) → OfRow row × Fits this × Fits that)
    (joined : (row : Row) (this that : Plan R) → OfRow row → Fits this → Fits that → Fits (branch row this that)) where
  at_node : (t : Bool) (row : Row) (this that : Plan R) → OfRow row → Fits this → Fits that → Fits (cond t this (branch row this that))
  at_node true row this that own first second = first
  at_node false row this that own first second = joined row this that own first second

  at_side : (t : Option Bool) (this that neither : Plan R) → Fits this → Fits that → Fits neither → Fits (on_side t this that neither)
  at_side (Some true) this that neither first second both = first
  at_side (Some false) this that neither first second both = second
  at_side None this that neither first second both = both

  pub trimmed_fits : (path : List Row) (plan : Plan R) → Fits plan → Fits (trimmed same path plan)
  trimmed_fits path bottom fits = fits
  trimmed_fits path (top cause) fits = fits
  trimmed_fits path (leaf why rank) fits = fits
  trimmed_fits path (branch row this that) fits =
      let parts = split row this that fits in
      let first = trimmed same (path ++ row ∷ []) this in
      let second = trimmed same (path ++ complement row ∷ []) that in
      at_side (settles path row) (trimmed same path this) (trimmed same path that) (node same row first second)
      (trimmed_fits path this parts.1) (trimmed_fits path that parts.2)
      (at_node (same_plan same first second) row first second parts.0 (trimmed_fits (path ++ row ∷ []) this parts.1)
      (trimmed_fits (path ++ complement row ∷ []) that parts.2))
