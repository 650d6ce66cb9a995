use Rattle.std.proofs.Common.{◌+◌}
use Rattle.formula_syntax.specs.Mirror.{part as part_of, chain as chain_of}
use Rattle.formula_parse.proofs.Weights.{part_weight, chain_weight}
use Rattle.formula_parse.proofs.unknown.+unknown_parts.Given as goal

abbrev pub decreases-in_part : goal.decreases-in_part
decreases-in_part l = part_weight (part_of l.tree.now)

abbrev pub decreases-in_group : goal.decreases-in_group
decreases-in_group l = 1 + part_weight (part_of l.part.now) + chain_weight (chain_of l.chain.now)

abbrev pub decreases-in_chain : goal.decreases-in_chain
decreases-in_chain l = chain_weight (chain_of l.tree.now)
