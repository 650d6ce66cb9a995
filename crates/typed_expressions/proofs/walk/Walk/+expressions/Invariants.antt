use Rattle.std.proofs.Common.{◌≡◌, ◌≤◌}
use Rattle.concrete_syntax.specs.Mirror.{operand as operand_of, link as link_of, tail as tail_of}
use Rattle.typed_expressions.specs.Expressions.{tail_grouped, tail_faults}
use Rattle.typed_expressions.specs.Grouping.{leaf}
use Rattle.typed_expressions.specs.Faults.{earliest}
use Rattle.typed_expressions.specs.Typing.{typed_of, grouping_of}
use Rattle.typed_expressions.proofs.Weights.{operand_weight, link_weight, tail_weight}
use Rattle.typed_expressions.proofs.walk.Walk.+expressions.Given as goal

abbrev pub decreases-grouped : goal.decreases-grouped
decreases-grouped l = tail_weight (tail_of l.tail.now)

abbrev pub decreases-joint : goal.decreases-joint
decreases-joint l = link_weight (link_of l.link.now)

abbrev pub decreases-operand : goal.decreases-operand
decreases-operand l = operand_weight (operand_of l.tree.now)

-- what is left, behind what is grouped and reported so far, makes what the whole makes
abbrev pub invariant-grouped-loop-left : goal.invariant-grouped-loop-left
invariant-grouped-loop-left l =
    (l.self.tokens.now ≡ l.fn.self.tokens.now)
    × (l.self.scope ≡ l.fn.self.scope)
    × (tail_grouped l.fn.self.scope (grouping_of l.group) (tail_of l.left) ≡ tail_grouped l.fn.self.scope (leaf (typed_of l.fn.first)) (tail_of l.tail))
    × (earliest l.self.least (tail_faults l.fn.self.scope (tail_of l.left)) ≡ earliest l.fn.self.least (tail_faults l.fn.self.scope (tail_of l.tail)))
    × (tail_weight (tail_of l.left) ≤ tail_weight (tail_of l.tail))
