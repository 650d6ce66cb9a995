use Rattle.std.proofs.Common.{◌≡◌, ◌+◌, ◌*◌}
use Rattle.step_meaning.specs.Syntax.{statements, statement, size_of, size_of_statement}
use Rattle.control_flow.proofs.number.+sizes.Given as goal

abbrev pub decreases-size : goal.decreases-size
decreases-size l = 2 * size_of (statements l.block.now) + 1

abbrev pub decreases-size_of_one : goal.decreases-size_of_one
decreases-size_of_one l = 2 * size_of_statement (statement l.stmt.now.kind)

-- the sum so far and what is left make the whole
abbrev pub invariant-size-loop-left : goal.invariant-size-loop-left
invariant-size-loop-left l = l.sum + size_of (statements l.left) ≡ size_of (statements l.block)
