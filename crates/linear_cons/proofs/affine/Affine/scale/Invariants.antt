use Rattle.std.proofs.Common.{◌*ℤ◌}
use Rattle.linear_cons.specs.Functions.{coefficient}
use Rattle.linear_cons.proofs.Places.{FilledBelow}
use Rattle.linear_cons.proofs.affine.Affine.scale.Given as goal

abbrev pub invariant-loop-place : goal.invariant-loop-place
invariant-loop-place l = FilledBelow (λ i. coefficient l.self i *ℤ l.by) l.place l.coef
