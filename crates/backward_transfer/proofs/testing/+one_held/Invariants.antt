use Rattle.std.proofs.Common.{length}
use Rattle.backward_transfer.proofs.testing.+one_held.Given as goal

abbrev pub decreases-one_held : goal.decreases-one_held
decreases-one_held l = length l.conjunctions.now
