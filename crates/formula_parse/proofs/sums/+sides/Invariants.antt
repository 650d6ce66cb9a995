use Rattle.formula_syntax.specs.Mirror.{factor as factor_of, tail as tail_of}
use Rattle.formula_parse.proofs.Weights.{factor_weight, tail_weight}
use Rattle.formula_parse.proofs.sums.+sides.Given as goal

abbrev pub decreases-factor : goal.decreases-factor
decreases-factor l = factor_weight (factor_of l.tree.now)

abbrev pub decreases-tail : goal.decreases-tail
decreases-tail l = tail_weight (tail_of l.tree.now)
