use Rattle.std.proofs.Common.{ℕ, ◌<◌, ◌-◌, ◌^◌, map}
use Rattle.decision_tree.specs.Plans.{leaves_of, plan_of}
use Rattle.tree_support.specs.Setting.{trees_in}
use Rattle.check_cases.proofs.checks.are_countable.Given as goal

abbrev pub invariant-loop-tree : goal.invariant-loop-tree
invariant-loop-tree l = (label : ℕ) → label < l.tree-index → leaves_of (trees_in (map plan_of l.trees) label) < 2 ^ 64 - 1
