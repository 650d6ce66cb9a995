use Rattle.linear_cons.proofs.EndLaws.{from_least, up_to_greatest}
use Rattle.linear_cons.proofs.laws.values_lie_between_their_ends.Goals as goal

pub returns : goal.returns
returns c = record { least = from_least; greatest = up_to_greatest }
