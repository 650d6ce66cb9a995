use Rattle.std.proofs.Common.{◌≡◌, ◌≤◌, ◌+◌, ◌*◌}
use Rattle.step_meaning.specs.Syntax.{statements, statement, size_of, size_of_statement}
use Rattle.control_flow.specs.Bodies.{body_in}
use Rattle.control_flow.proofs.bodies.+bodies.Given as goal

abbrev pub decreases-body_in : goal.decreases-body_in
decreases-body_in l = 3 * size_of (statements l.block.now) + 1

-- the loop stands among the statements that are left, if at all
abbrev pub invariant-body_in-loop-left : goal.invariant-body_in-loop-left
invariant-body_in-loop-left l =
    (l.number ≤ l.here)
    × (l.here + size_of (statements l.left) ≡ l.number + size_of (statements l.block))
    × (body_in l.number (statements l.block) l.head ≡ body_in l.here (statements l.left) l.head)

abbrev pub decreases-body_in_one : goal.decreases-body_in_one
decreases-body_in_one l = 3 * size_of_statement (statement l.stmt.now.kind)

abbrev pub decreases-body_in_two : goal.decreases-body_in_two
decreases-body_in_two l = 3 * (size_of (statements l.first.now) + size_of (statements l.second.now)) + 2
