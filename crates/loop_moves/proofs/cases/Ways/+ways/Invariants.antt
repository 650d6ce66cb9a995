use Rattle.std.proofs.Common.{◌+◌}
use Rattle.loop_moves.proofs.cases.Ways.+ways.Given as goal

abbrev pub decreases-asked : goal.decreases-asked
decreases-asked g l = l.calls + l.calls + 1

abbrev pub decreases-joined : goal.decreases-joined
decreases-joined g l = l.calls + l.calls
