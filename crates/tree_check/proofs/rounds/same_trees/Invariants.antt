use Rattle.std.proofs.Common.{◌≡◌, ℕ, false, true, length, map, slice_index_or}
use Rattle.decision_tree.specs.Plans.{plan_of}
use Rattle.tree_support.specs.Setting.{trees_in}
use Rattle.tree_check.proofs.rounds.same_trees.Given as goal

abbrev pub invariant-loop-label : goal.invariant-loop-label
invariant-loop-label g l =
    (length l.same.items ≡ l.label)
    × ((label : ℕ) → slice_index_or l.same.items label false ≡ true → trees_in (map plan_of l.trees) label ≡ trees_in (map plan_of l.known) label)
