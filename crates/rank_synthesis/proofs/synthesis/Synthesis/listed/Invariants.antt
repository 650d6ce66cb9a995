use Rattle.std.proofs.Common.{◌≡◌, length}
use Rattle.rank_synthesis.proofs.synthesis.Synthesis.listed.Given as goal

-- no cells come or go
abbrev pub invariant-loop-place : goal.invariant-loop-place
invariant-loop-place l = length l.self.kept.items ≡ l.place-end
