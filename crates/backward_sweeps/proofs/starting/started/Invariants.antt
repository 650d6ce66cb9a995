use Rattle.std.proofs.Common.{◌≡◌, ℕ, ◌<◌, length}
use Rattle.backward_transfer.specs.AffineShapes.{plans, tree_at}
use Rattle.control_flow.specs.Transitions.{transition_in}
use Rattle.backward_sweeps.specs.Remaking.{IsStarted, parts_of}
use Rattle.backward_sweeps.proofs.starting.started.Given as goal

-- each tree so far is started
abbrev pub invariant-loop-label : goal.invariant-loop-label
invariant-loop-label l =
    (length l.trees.items ≡ l.label)
    × ((label : ℕ) → label < length l.trees.items
    → IsStarted (parts_of l.operands) label (transition_in l.transitions label) (tree_at (plans l.trees.items) label))
