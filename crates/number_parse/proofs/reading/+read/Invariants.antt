use Rattle.std.proofs.Common.{length}
use Rattle.number_parse.proofs.reading.+read.Given as goal

abbrev pub decreases-read : goal.decreases-read
decreases-read l = length l.bytes.now
