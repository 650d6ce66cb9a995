use Rattle.std.proofs.Common.{◌+◌, ◌*◌, ◌≤◌, ◌↔◌}
use Rattle.step_meaning.specs.Syntax.{statements, statement, size_of, size_of_statement}
use Rattle.step_meaning.specs.Counts.{HasNoLoop}
use Rattle.step_meaning.proofs.countdown.+loops.Given as goal

abbrev pub decreases-has_no_loop : goal.decreases-has_no_loop
decreases-has_no_loop l = 2 * size_of (statements l.block.now) + 1

abbrev pub decreases-is_loop_free : goal.decreases-is_loop_free
decreases-is_loop_free l = 2 * size_of_statement (statement l.kind.now)

-- no loop was passed
abbrev pub invariant-has_no_loop-loop-left : goal.invariant-has_no_loop-loop-left
invariant-has_no_loop-loop-left l = record {
  fewer : size_of (statements l.left) ≤ size_of (statements l.block);
  all : HasNoLoop (statements l.left) ↔ HasNoLoop (statements l.block);
}
