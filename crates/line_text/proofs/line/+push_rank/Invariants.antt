use Rattle.std.proofs.Common.{length}
use Rattle.line_text.proofs.line.+push_rank.Given as goal

abbrev pub decreases-push_rank : goal.decreases-push_rank
decreases-push_rank l = length l.functions.now
