use Rattle.std.proofs.Common.{◌≡◌}
use Rattle.linear_cons.specs.LinearForm.{products_below}
use Rattle.linear_cons.proofs.Sums.{PartsFitBelow}
use Rattle.linear_cons.proofs.affine.Affine.value.Given as goal

abbrev pub invariant-loop-place : goal.invariant-loop-place
invariant-loop-place l = (l.sum ≡ products_below l.place l.self.coef l.store) × PartsFitBelow l.place l.self.coef l.store
