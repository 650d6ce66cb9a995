use Rattle.std.proofs.Common.{length}
use Rattle.backward_transfer.proofs.testing.+one_refuted.Given as goal

abbrev pub decreases-one_refuted : goal.decreases-one_refuted
decreases-one_refuted l = length l.rows.now
