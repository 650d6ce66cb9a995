use Rattle.std.proofs.Common.{length}
use Rattle.line_text.proofs.line.+shown.Given as goal

abbrev pub decreases-shown : goal.decreases-shown
decreases-shown l = length l.functions.now
