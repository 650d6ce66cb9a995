use Rattle.std.proofs.Common.{arith, refl}
use Rattle.std.proofs.lemmas.Bool.{false≢true}
use Rattle.line_text.proofs.Rows.{row_over, rows_over}
use Rattle.line_text.proofs.over.are_over.Goals as goal

pub returns-then-not-is_over : goal.returns-then-not-is_over
returns-then-not-is_over c = (
  λ e. absurd (false≢true e),
  λ all. c.if-not-is_over.ensures.1 (row_over c.args.names.now c.args.rows.now c.row-item.result
      c.loop-row.row-index all c.row-item.is c.loop-row-test.true),
)

pub returns : goal.returns
returns c = (λ e. rows_over c.args.names.now c.args.rows.now (λ k row low. c.loop-row.invariant k row (omega arith)), λ all. refl)
