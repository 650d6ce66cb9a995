use Rattle.std.proofs.Common.{ℕ, ◌^◌, ◌<◌, ◌≤◌, unsigned_abs}
use Rattle.linear_cons.specs.Functions.{coefficient}
use Rattle.step_meaning.proofs.countdown.is_small.Given as goal

-- the coefficients below the place are small
abbrev pub invariant-loop-place : goal.invariant-loop-place
invariant-loop-place l = (i : ℕ) → i < l.place → unsigned_abs (coefficient l.function i) ≤ 2 ^ 31
