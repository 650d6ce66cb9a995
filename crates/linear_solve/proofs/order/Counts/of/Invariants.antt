use Rattle.std.proofs.Common.{◌≡◌, ◌<◌, ℕ, take}
use Rattle.linear_solve.specs.Counts.{count_at}
use Rattle.linear_solve.specs.Elimination.{lowers_of, uppers_of}
use Rattle.linear_solve.proofs.order.Counts.of.Given as goal

abbrev pub invariant-loop-row : goal.invariant-loop-row
invariant-loop-row l = record {
  lowers : (place : ℕ) → place < 16 → count_at l.counts.lowers place ≡ lowers_of place (take l.row-index l.rows);
  uppers : (place : ℕ) → place < 16 → count_at l.counts.uppers place ≡ uppers_of place (take l.row-index l.rows);
}
