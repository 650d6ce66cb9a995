use Rattle.std.proofs.Common.{◌+◌, ◌-◌, ◌*◌, length}
use Rattle.formula_syntax.proofs.sum.+sums.Given as goal

abbrev pub decreases-sum : goal.decreases-sum
decreases-sum l = 4 * (length l.reader.words.now - l.at) + 3

abbrev pub decreases-tail : goal.decreases-tail
decreases-tail l = 4 * (length l.reader.words.now - l.at) + 3

abbrev pub decreases-factor : goal.decreases-factor
decreases-factor l = 4 * (length l.reader.words.now - l.at) + 2

abbrev pub decreases-factor_kind : goal.decreases-factor_kind
decreases-factor_kind l = 4 * (length l.reader.words.now - l.at) + 1

abbrev pub decreases-further : goal.decreases-further
decreases-further l = 4 * (length l.reader.words.now - l.at) + 2

abbrev pub decreases-signed : goal.decreases-signed
decreases-signed l = 4 * (length l.reader.words.now - l.at)

abbrev pub decreases-summed : goal.decreases-summed
decreases-summed l = 4 * (length l.reader.words.now - l.at)
