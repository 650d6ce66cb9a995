use Rattle.std.proofs.Common.{length}
use Rattle.backward_transfer.proofs.testing.+add_not_refuted.Given as goal

abbrev pub decreases-add_not_refuted : goal.decreases-add_not_refuted
decreases-add_not_refuted l = length l.conjunctions.now
