use Rattle.std.proofs.Common.{refl}
use Rattle.std.proofs.lemmas.Int.{to_z-of_z}
use Rattle.linear_cons.specs.Numbers.{at_places}
use Rattle.linear_cons.proofs.affine.Affine.constant.Goals as goal

pub returns : goal.returns
unfolding at_places
returns c = let f = c.ranges.c in simp to_z-of_z refl
