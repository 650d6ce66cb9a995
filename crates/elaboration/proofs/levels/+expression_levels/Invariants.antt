use Rattle.std.proofs.Common.{◌≡◌, ◌≤◌, max}
use Rattle.concrete_syntax.specs.Mirror.{operand as operand_of, tail as tail_of}
use Rattle.elaboration.specs.Levels.{tail_levels}
use Rattle.typed_expressions.proofs.Weights.{operand_weight, tail_weight}
use Rattle.elaboration.proofs.levels.+expression_levels.Given as goal

abbrev pub decreases-operand_levels : goal.decreases-operand_levels
decreases-operand_levels l = operand_weight (operand_of l.tree.now)

abbrev pub decreases-tail_levels : goal.decreases-tail_levels
decreases-tail_levels l = tail_weight (tail_of l.tree.now)

-- the greatest so far and that of what is left is that of all
abbrev pub invariant-tail_levels-loop-left : goal.invariant-tail_levels-loop-left
invariant-tail_levels-loop-left l =
    (max l.most (tail_levels l.level (tail_of l.left)) ≡ tail_levels l.level (tail_of l.fn.tree))
    × (l.level ≤ l.most)
    × (tail_weight (tail_of l.left) ≤ tail_weight (tail_of l.fn.tree))
