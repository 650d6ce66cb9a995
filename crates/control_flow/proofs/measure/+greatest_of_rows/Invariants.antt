use Rattle.std.proofs.Common.{length}
use Rattle.control_flow.proofs.measure.+greatest_of_rows.Given as goal

abbrev pub decreases-greatest_of_rows : goal.decreases-greatest_of_rows
decreases-greatest_of_rows l = length l.rows.now
