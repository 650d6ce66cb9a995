use Rattle.std.proofs.Common.{◌+◌, ◌-◌, ◌*◌, length}
use Rattle.formula_syntax.proofs.part.+parts.Given as goal

abbrev pub decreases-formula : goal.decreases-formula
decreases-formula l = 8 * (length l.reader.words.now - l.at) + 5

abbrev pub decreases-chain : goal.decreases-chain
decreases-chain l = 8 * (length l.reader.words.now - l.at) + 5

abbrev pub decreases-part : goal.decreases-part
decreases-part l = 8 * (length l.reader.words.now - l.at) + 4

abbrev pub decreases-joined : goal.decreases-joined
decreases-joined l = 8 * (length l.reader.words.now - l.at) + 4

abbrev pub decreases-prefixed : goal.decreases-prefixed
decreases-prefixed l = 8 * (length l.reader.words.now - l.at)

abbrev pub decreases-quantified : goal.decreases-quantified
decreases-quantified l = 8 * (length l.reader.words.now - l.at)

abbrev pub decreases-grouped : goal.decreases-grouped
decreases-grouped l = 8 * (length l.reader.words.now - l.at) + 3

abbrev pub decreases-group : goal.decreases-group
decreases-group l = 8 * (length l.reader.words.now - l.at) + 2

abbrev pub decreases-inner : goal.decreases-inner
decreases-inner l = 8 * (length l.reader.words.now - l.at) + 7

abbrev pub decreases-inner_group : goal.decreases-inner_group
decreases-inner_group l = 8 * (length l.reader.words.now - l.at) + 6

abbrev pub decreases-inner_sum : goal.decreases-inner_sum
decreases-inner_sum l = 8 * (length l.reader.words.now - l.at) + 6

abbrev pub decreases-closed_formula : goal.decreases-closed_formula
decreases-closed_formula l = 8 * (length l.reader.words.now - l.at) + 6

abbrev pub decreases-inner_compared : goal.decreases-inner_compared
decreases-inner_compared l = 8 * (length l.reader.words.now - l.at)

abbrev pub decreases-inner_end : goal.decreases-inner_end
decreases-inner_end l = 8 * (length l.reader.words.now - l.at) + 1
