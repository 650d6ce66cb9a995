use Rattle.std.proofs.Common.{◌≡◌, ◌+◌, ◌*◌, ◌≤◌, ◌++◌, length}
use Rattle.step_meaning.specs.Step.{Todo}
use Rattle.step_meaning.specs.Syntax.{statements, statement, size_of, size_of_statement}
use Rattle.control_flow.specs.Labels.{inside, labels_of}
use Rattle.control_flow.specs.Tables.{actions, actions_of}
use Rattle.control_flow.proofs.number.+places.Given as goal

abbrev pub decreases-place_all : goal.decreases-place_all
decreases-place_all l = 2 * size_of (statements l.block.now) + 1

abbrev pub decreases-place : goal.decreases-place
decreases-place l = 2 * size_of_statement (statement l.stmt.now.kind)

-- the labels so far and those of what is left are those of all
abbrev pub invariant-place_all-loop-left : goal.invariant-place_all-loop-left
invariant-place_all-loop-left l = record {
  fewer : size_of (statements l.left) ≤ size_of (statements l.block);
  count : length l.nodes.items + size_of (statements l.left) ≡ length l.initial.nodes.items + size_of (statements l.block);
  labels : (rest : Todo) → actions l.nodes.items ++ actions_of (labels_of (length l.nodes.items) l.after (inside l.jumps.out l.jumps.mark) rest (statements l.left))
      ≡ actions l.initial.nodes.items ++ actions_of (labels_of (length l.initial.nodes.items) l.after (inside l.jumps.out l.jumps.mark) rest (statements l.block));
}
