use Rattle.std.proofs.Common.{◌≡◌, ℕ, ◌<◌, length}
use Rattle.decision_tree.specs.Plans.{bottom, leaf}
use Rattle.decision_tree.specs.declared.reason.Why.TheVariants.{End}
use Rattle.backward_transfer.specs.AffineShapes.{tree_at, plans}
use Rattle.unroll.specs.Levels.{counted}
use Rattle.unroll.proofs.trees.unclaimed.Given as goal

-- so many trees are there, of which that of label 0 alone claims something
abbrev pub invariant-loop : goal.invariant-loop
invariant-loop l =
    (length l.trees.items ≡ l.counter) × (tree_at (plans l.trees.items) 0 ≡ leaf End (counted 0))
    × ((label : ℕ) → 0 < label → tree_at (plans l.trees.items) label ≡ bottom)
