use Rattle.std.proofs.Common.{ℕ, ◌<◌, get_or}
use Rattle.linear_cons.specs.declared.row.Row.{Row}
use Rattle.line_text.specs.Names.{IsOver}
use Rattle.line_text.proofs.over.are_over.Given as goal

abbrev pub invariant-loop-row : goal.invariant-loop-row
invariant-loop-row l = (k : ℕ) (row : Row) → k < l.row-index → IsOver l.names (get_or l.rows k row).affine
