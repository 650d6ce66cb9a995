use Rattle.std.proofs.Common.{◌≡◌, ◌<◌, ℕ, neg_ℤ}
use Rattle.linear_cons.specs.Functions.{coefficient}
use Rattle.linear_cons.proofs.affine.Affine.has_negatives.Given as goal

abbrev pub invariant-loop-place : goal.invariant-loop-place
invariant-loop-place l = (i : ℕ) → i < l.place → coefficient l.other i ≡ neg_ℤ (coefficient l.self i)
