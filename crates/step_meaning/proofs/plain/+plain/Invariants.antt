use Rattle.std.proofs.Common.{◌+◌, ◌*◌, ◌≤◌, ◌↔◌}
use Rattle.step_meaning.specs.Syntax.{statements, statement, size_of, size_of_statement}
use Rattle.step_meaning.specs.Plain.{IsPlain}
use Rattle.step_meaning.proofs.plain.+plain.Given as goal

abbrev pub decreases-are_plain : goal.decreases-are_plain
decreases-are_plain l = 2 * size_of (statements l.block.now) + 1

abbrev pub decreases-is_plain_statement : goal.decreases-is_plain_statement
decreases-is_plain_statement l = 2 * size_of_statement (statement l.kind.now)

-- what was passed is plain
abbrev pub invariant-are_plain-loop-left : goal.invariant-are_plain-loop-left
invariant-are_plain-loop-left l = record {
  fewer : size_of (statements l.left) ≤ size_of (statements l.block);
  all : IsPlain (statements l.left) ↔ IsPlain (statements l.block);
}
