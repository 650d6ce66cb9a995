use Rattle.std.proofs.Common.{◌≡◌, ℕ, ◌<◌, length}
use Rattle.backward_transfer.specs.AffineShapes.{plans, tree_at}
use Rattle.control_flow.specs.Transitions.{transition_in}
use Rattle.part_trees.specs.Next.{IsNext}
use Rattle.part_trees.proofs.stepping.nexts.Given as goal

-- each tree so far is so
abbrev pub invariant-loop-label : goal.invariant-loop-label
invariant-loop-label l =
    (length l.trees.items ≡ l.label)
    × ((label : ℕ) → label < length l.trees.items
    → IsNext l.all (plans l.part) label (transition_in l.transitions label) (tree_at (plans l.trees.items) label))
