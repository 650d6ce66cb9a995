use Rattle.std.proofs.Common.{length}
use Rattle.backward_transfer.proofs.choosing.+put_more.Given as goal

abbrev pub decreases-put_more : goal.decreases-put_more
decreases-put_more g l = length l.values.now
