use Rattle.std.proofs.Common.{◌≡◌, ℕ, ◌<◌, length}
use Rattle.backward_transfer.specs.AffineShapes.{plans, tree_at}
use Rattle.backward_sweeps.specs.Claiming.{reranked}
use Rattle.part_trees.proofs.stepping.reranked.Given as goal

-- each tree so far has the rank 0
abbrev pub invariant-loop-label : goal.invariant-loop-label
invariant-loop-label l =
    (length l.made.items ≡ l.label)
    × ((label : ℕ) → label < length l.made.items → tree_at (plans l.made.items) label ≡ reranked (tree_at (plans l.trees) label))
