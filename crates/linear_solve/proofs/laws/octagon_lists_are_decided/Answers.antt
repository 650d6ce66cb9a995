use Rattle.linear_solve.proofs.Deciding.{octagons_decided}
use Rattle.linear_solve.proofs.laws.octagon_lists_are_decided.Goals as goal

pub returns : goal.returns
returns c = octagons_decided
