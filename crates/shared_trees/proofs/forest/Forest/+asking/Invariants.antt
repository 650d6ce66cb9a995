use Rattle.std.proofs.Common.{length, ◌+◌}
use Rattle.shared_trees.proofs.Left.{rows_left, stage_left}
use Rattle.shared_trees.proofs.forest.Forest.+asking.Given as goal

abbrev pub decreases-ask_next : goal.decreases-ask_next
decreases-ask_next g l = rows_left l.rest.now + 1 + stage_left l.stage (rows_left l.test.now.fails.now)

abbrev pub decreases-ask_rows : goal.decreases-ask_rows
decreases-ask_rows g l = length l.rows.now + rows_left l.rest.now + 1 + stage_left l.stage (rows_left l.test.now.fails.now)

abbrev pub decreases-settle : goal.decreases-settle
decreases-settle g l = stage_left l.stage (rows_left l.test.now.fails.now)
