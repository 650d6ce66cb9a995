use Rattle.std.proofs.Common.{ℕ, ◌<◌}
use Rattle.linear_cons.specs.Functions.{ProductsFit, coefficient}
use Rattle.linear_cons.proofs.Mixed.{mixed_number_at}
use Rattle.linear_cons.proofs.Places.{FilledBelow}
use Rattle.linear_cons.proofs.affine.Affine.mixed.Given as goal

abbrev pub invariant-loop-place : goal.invariant-loop-place
invariant-loop-place l = record {
  filled : FilledBelow (mixed_number_at l.self l.by l.other l.times) l.place l.coef;
  parts : (i : ℕ) → i < l.place → ProductsFit (coefficient l.self i) l.by (coefficient l.other i) l.times;
}
