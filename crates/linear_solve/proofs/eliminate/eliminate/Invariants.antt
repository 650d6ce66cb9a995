use Rattle.std.proofs.Common.{◌≤◌, ◌+◌, ◌*◌, [], length, take}
use Rattle.linear_solve.specs.Elimination.{Grows, ImpliesPairs, ImpliesRest, lowers_of, others_of, uppers_of}
use Rattle.linear_solve.proofs.eliminate.eliminate.Given as goal

abbrev pub invariant-loop-lower : goal.invariant-loop-lower
invariant-loop-lower l = record {
  grows : Grows l.rows l.place [] l.made.items;
  rest : ImpliesRest l.rows l.place l.made.items;
  pairs : ImpliesPairs (take l.lower-index l.rows) l.rows l.place l.made.items;
  short : length l.made.items ≤ lowers_of l.place (take l.lower-index l.rows) * uppers_of l.place l.rows + others_of l.place l.rows;
}
