use Rattle.formula_syntax.specs.Mirror.{factor as factor_of, tail as tail_of}
use Rattle.formula_parse.proofs.Weights.{factor_weight, tail_weight}
use Rattle.formula_parse.proofs.unknown.+unknown_names.Given as goal

abbrev pub decreases-in_factor : goal.decreases-in_factor
decreases-in_factor l = factor_weight (factor_of l.tree.now)

abbrev pub decreases-in_tail : goal.decreases-in_tail
decreases-in_tail l = tail_weight (tail_of l.tree.now)
