use Rattle.linear_cons.specs.Exact.{exact_result}
use Rattle.linear_cons.specs.Functions.{coefficient}
use Rattle.linear_cons.proofs.Places.{FilledBelow}
use Rattle.linear_cons.proofs.affine.Affine.combined.Given as goal

abbrev pub invariant-loop-place : goal.invariant-loop-place
invariant-loop-place l = FilledBelow (λ i. exact_result l.op (coefficient l.self i) (coefficient l.other i)) l.place l.coef
