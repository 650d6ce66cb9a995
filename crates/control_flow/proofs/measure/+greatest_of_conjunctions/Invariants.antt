use Rattle.std.proofs.Common.{length}
use Rattle.control_flow.proofs.measure.+greatest_of_conjunctions.Given as goal

abbrev pub decreases-greatest_of_conjunctions : goal.decreases-greatest_of_conjunctions
decreases-greatest_of_conjunctions l = length l.conjunctions.now
