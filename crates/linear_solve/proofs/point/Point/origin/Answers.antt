use Rattle.std.proofs.Common.{refl}
use Rattle.linear_cons.specs.Numbers.{at_places}
use Rattle.linear_solve.proofs.point.Point.origin.Goals as goal

pub returns : goal.returns
unfolding at_places
returns c = refl
