use Rattle.std.proofs.Common.{◌≡◌, ℕ, ◌<◌, pos}
use Rattle.linear_cons.specs.Functions.{coefficient}
use Rattle.linear_solve.proofs.certificate.is_negative_constant.Given as goal

abbrev pub invariant-loop-place : goal.invariant-loop-place
invariant-loop-place l = (i : ℕ) → i < l.place → coefficient l.a i ≡ pos 0
