use Rattle.std.proofs.Common.{ℤ, pos, List, ap, refl}
use Rattle.linear_cons.specs.declared.affine.Affine.{Affine}
use Rattle.linear_cons.proofs.Places.{unit_at}
use Rattle.linear_cons.proofs.affine.Affine.var.Goals as goal

pub returns : goal.returns
returns c = ap (λ (coef : List ℤ). let a : Affine = record { coef = coef; constant = pos 0 } in a) (unit_at _ c.args.place refl c.requires)
