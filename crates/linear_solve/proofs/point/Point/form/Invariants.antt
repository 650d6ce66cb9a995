use Rattle.std.proofs.Common.{◌≡◌}
use Rattle.linear_cons.specs.LinearForm.{products_below}
use Rattle.linear_cons.proofs.Sums.{PartsFitBelow}
use Rattle.linear_solve.proofs.point.Point.form.Given as goal

abbrev pub invariant-loop-place : goal.invariant-loop-place
invariant-loop-place l = (l.sum ≡ products_below l.place l.a.coef l.self.num) × PartsFitBelow l.place l.a.coef l.self.num
