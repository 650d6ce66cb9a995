use Rattle.std.proofs.Common.{◌≡◌, ℕ, ◌<◌, true, length}
use Rattle.backward_transfer.specs.AffineShapes.{plans, tree_at}
use Rattle.control_flow.specs.Transitions.{transition_in, is_given}
use Rattle.backward_sweeps.specs.Remaking.{given_for, goal_at, parts_of}
use Rattle.backward_sweeps.proofs.pass.begun.Given as goal

-- each tree so far that is given is so
abbrev pub invariant-loop-label : goal.invariant-loop-label
invariant-loop-label l =
    (length l.trees.items ≡ l.label)
    × ((label : ℕ) → label < length l.trees.items → is_given (transition_in l.transitions label) ≡ true
    → tree_at (plans l.trees.items) label ≡ given_for (goal_at (parts_of l.operands) label) (transition_in l.transitions label) (tree_at (plans l.heads) label))
