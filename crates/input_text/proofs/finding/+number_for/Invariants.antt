use Rattle.std.proofs.Common.{length}
use Rattle.input_text.proofs.finding.+number_for.Given as goal

abbrev pub decreases-number_for : goal.decreases-number_for
decreases-number_for l = length l.text.now
