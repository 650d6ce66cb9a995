use Rattle.typed_expressions.proofs.Ladder.{one_ladder}
use Rattle.typed_expressions.proofs.laws.one_group_is_by_the_ladder.Goals as goal

pub returns : goal.returns
returns c = one_ladder
