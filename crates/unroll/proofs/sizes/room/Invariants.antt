use Rattle.std.proofs.Common.{◌≡◌, length}
use Rattle.unroll.proofs.sizes.room.Given as goal

-- so many numbers are there
abbrev pub invariant-loop : goal.invariant-loop
invariant-loop l = length l.sizes.items ≡ l.counter
