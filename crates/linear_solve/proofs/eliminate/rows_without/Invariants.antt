use Rattle.std.proofs.Common.{◌≤◌, [], length, take}
use Rattle.linear_solve.specs.Elimination.{Grows, ImpliesRest, others_of}
use Rattle.linear_solve.proofs.eliminate.rows_without.Given as goal

abbrev pub invariant-loop-row : goal.invariant-loop-row
invariant-loop-row l = record {
  grows : Grows l.rows l.place [] l.made.items;
  rest : ImpliesRest (take l.row-index l.rows) l.place l.made.items;
  short : length l.made.items ≤ others_of l.place (take l.row-index l.rows);
}
