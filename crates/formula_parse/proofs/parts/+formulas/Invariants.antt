use Rattle.std.proofs.Common.{◌+◌}
use Rattle.formula_syntax.specs.Mirror.{part as part_of, chain as chain_of}
use Rattle.formula_parse.proofs.Weights.{part_weight, chain_weight}
use Rattle.formula_parse.proofs.parts.+formulas.Given as goal

abbrev pub decreases-group : goal.decreases-group
decreases-group l = 1 + part_weight (part_of l.part.now) + chain_weight (chain_of l.chain.now)

abbrev pub decreases-one_part : goal.decreases-one_part
decreases-one_part l = part_weight (part_of l.tree.now)

abbrev pub decreases-behind : goal.decreases-behind
decreases-behind l = chain_weight (chain_of l.tree.now)
