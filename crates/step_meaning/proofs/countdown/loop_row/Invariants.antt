use Rattle.std.proofs.Common.{◌^◌, ◌<◌, ◌≤◌, ◌↔◌}
use Rattle.linear_cons.specs.declared.row.Row.{Row}
use Rattle.step_meaning.specs.Syntax.{statements}
use Rattle.step_meaning.specs.Countdown.{CountsFirst, CountsFrom}
use Rattle.step_meaning.proofs.countdown.loop_row.Given as goal

-- what is left counts a row down behind the factors so far exactly where all does
abbrev pub invariant-loop-left : goal.invariant-loop-left
invariant-loop-left l = record {
  some : 0 < l.product;
  small : l.product ≤ 2 ^ 60;
  same : (row : Row) → CountsFrom row l.product (statements l.left) ↔ CountsFrom row 1 (statements l.block);
  first : (row : Row) → CountsFirst row (statements l.left) ↔ CountsFirst row (statements l.block);
}
