use Rattle.std.proofs.Common.{length}
use Rattle.backward_transfer.proofs.testing.+all_held.Given as goal

abbrev pub decreases-all_held : goal.decreases-all_held
decreases-all_held l = length l.rows.now
