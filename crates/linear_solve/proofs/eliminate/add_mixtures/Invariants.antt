use Rattle.std.proofs.Common.{◌≤◌, ◌+◌, length, take}
use Rattle.linear_solve.specs.Elimination.{Grows, ImpliesMixtures, uppers_of}
use Rattle.linear_solve.proofs.eliminate.add_mixtures.Given as goal

abbrev pub invariant-loop-upper : goal.invariant-loop-upper
invariant-loop-upper l = record {
  grows : Grows l.rows l.place l.initial.made.items l.made.items;
  mixtures : ImpliesMixtures l.lower (take l.upper-index l.rows) l.place l.made.items;
  short : length l.made.items ≤ length l.initial.made.items + uppers_of l.place (take l.upper-index l.rows);
}
