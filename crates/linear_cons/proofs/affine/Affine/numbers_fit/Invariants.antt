use Rattle.std.proofs.Common.{ℕ, ◌<◌}
use Rattle.linear_cons.specs.Functions.{coefficient}
use Rattle.linear_cons.specs.Numbers.{Fits128}
use Rattle.linear_cons.proofs.affine.Affine.numbers_fit.Given as goal

abbrev pub invariant-loop-place : goal.invariant-loop-place
invariant-loop-place l = (i : ℕ) → i < l.place → Fits128 (coefficient l.self i)
