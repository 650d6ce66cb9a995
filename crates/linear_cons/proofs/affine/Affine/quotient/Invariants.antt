use Rattle.linear_cons.proofs.Dividing.{QuotientBelow}
use Rattle.linear_cons.proofs.affine.Affine.quotient.Given as goal

abbrev pub invariant-loop-place : goal.invariant-loop-place
invariant-loop-place l = QuotientBelow l.divisor l.place l.self.coef l.coef
