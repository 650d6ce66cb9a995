use Rattle.std.proofs.Common.{length, ◌-◌}
use Rattle.fault_words.proofs.wording.wrong_word.Given as goal

abbrev pub decreases-loop-place : goal.decreases-loop-place
decreases-loop-place l = length l.words - l.place
