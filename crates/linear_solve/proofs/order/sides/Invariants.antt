use Rattle.std.proofs.Common.{◌≡◌, ◌+◌, ◌≤◌, take}
use Rattle.linear_solve.specs.Elimination.{lowers_of, uppers_of}
use Rattle.linear_solve.proofs.order.sides.Given as goal

abbrev pub invariant-loop-row : goal.invariant-loop-row
invariant-loop-row l = record {
  lowers : l.lowers ≡ lowers_of l.place (take l.row-index l.rows);
  uppers : l.uppers ≡ uppers_of l.place (take l.row-index l.rows);
  together : l.lowers + l.uppers ≤ l.row-index;
}
