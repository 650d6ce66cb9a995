use Rattle.std.proofs.Common.{◌≡◌, ◌≤◌, All, length, ℕ, ◌<◌}
use Rattle.part_families.specs.Fitting.{IsFit}
use Rattle.part_families.proofs.fitting.fitted.Given as goal
use Rattle.backward_transfer.specs.AffineShapes.{plans, tree_at}
use Rattle.exact_families.specs.Completeness.{AreKept}

abbrev pub invariant-loop-label : goal.invariant-loop-label
invariant-loop-label l =
    ((label : ℕ) → label < l.label → IsFit (length l.names) (tree_at (plans l.trees.items) label)) × AreKept (plans l.initial.trees.items) (plans l.trees.items)
    × (length l.trees.items ≡ length l.initial.trees.items)
    × (length l.names ≤ 16 → All (IsFit (length l.names)) (plans l.initial.trees.items) → plans l.trees.items ≡ plans l.initial.trees.items)
