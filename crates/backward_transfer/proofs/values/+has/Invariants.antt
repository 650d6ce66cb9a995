use Rattle.std.proofs.Common.{length}
use Rattle.backward_transfer.proofs.values.+has.Given as goal

abbrev pub decreases-has : goal.decreases-has
decreases-has l = length l.values.now
