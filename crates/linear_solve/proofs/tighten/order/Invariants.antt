use Rattle.std.proofs.Common.{◌≡◌, ◌<◌, ℕ}
use Rattle.linear_cons.specs.Functions.{coefficient}
use Rattle.linear_solve.proofs.tighten.order.Given as goal

abbrev pub invariant-loop-place : goal.invariant-loop-place
invariant-loop-place l = (i : ℕ) → i < l.place → coefficient l.row.affine i ≡ coefficient l.other.affine i
