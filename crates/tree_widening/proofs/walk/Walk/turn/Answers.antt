use Rattle.std.proofs.Common.{◌∷◌, ◌++◌, [], ap, ◌∙◌}
use Rattle.linear_cons.specs.Rows.{complement}
use Rattle.linear_cons.specs.declared.row.Row.{Row}
use Rattle.linear_cons.proofs.RowLaws.{row_same}
use Rattle.tree_widening.proofs.walk.Walk.turn.Goals as goal

pub returns-in-Ok-clause-turned : goal.returns-in-Ok-clause-turned
returns-in-Ok-clause-turned c front row is =
    let turned = c.in-Ok.ensures.turned front row is in
    turned.2 ∙ ap (λ (r : Row). front ++ r ∷ []) (row_same turned.0 (complement row) turned.1)
