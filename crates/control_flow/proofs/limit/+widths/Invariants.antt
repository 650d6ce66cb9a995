use Rattle.std.proofs.Common.{◌≡◌, ◌+◌, ◌*◌, ◌≤◌}
use Rattle.step_meaning.specs.Syntax.{statements, statement, size_of, size_of_statement}
use Rattle.control_flow.specs.Faults.{least_from, wide_offsets}
use Rattle.control_flow.proofs.limit.+widths.Given as goal

abbrev pub decreases-least_wide : goal.decreases-least_wide
decreases-least_wide l = 2 * size_of (statements l.block.now) + 1

abbrev pub decreases-least_wide_of_one : goal.decreases-least_wide_of_one
decreases-least_wide_of_one l = 2 * size_of_statement (statement l.stmt.now.kind)

-- the place so far and those of what is left make the least of all
abbrev pub invariant-least_wide-loop-left : goal.invariant-least_wide-loop-left
invariant-least_wide-loop-left l = record {
  fewer : size_of (statements l.left) ≤ size_of (statements l.block);
  least : least_from l.least (wide_offsets l.left) ≡ least_from l.initial.least (wide_offsets l.block);
}
