use Rattle.std.proofs.Common.{◌∷◌, ◌++◌, [], ap, ◌∙◌}
use Rattle.linear_cons.specs.Rows.{complement}
use Rattle.linear_cons.specs.declared.row.Row.{Row}
use Rattle.linear_cons.proofs.RowLaws.{row_same}
use Rattle.tree_unify.proofs.walk.Walk.down_no.Goals as goal

pub returns-in_ok-down_by-in-Ok-clause-down : goal.returns-in_ok-down_by-in-Ok-clause-down
returns-in_ok-down_by-in-Ok-clause-down c =
    let is = rw c.deref.ensures at c.in-Ok.ensures.complement in
    c.in_ok-down_by-in-Ok.ensures.down ∙ ap (λ (r : Row). c.args.self.now.trail ++ r ∷ []) (row_same c.in-Ok.complement (complement c.args.row.now) is)
