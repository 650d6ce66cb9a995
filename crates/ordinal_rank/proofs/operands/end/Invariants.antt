use Rattle.std.proofs.Common.{◌≡◌, ℕ, suc, map}
use Rattle.decision_tree.specs.Plans.{bottom, plan_of}
use Rattle.tree_support.specs.Setting.{trees_in}
use Rattle.ordinal_rank.proofs.operands.end.Given as goal

-- behind label 0 nothing is defined so far
abbrev pub invariant-loop : goal.invariant-loop
invariant-loop l = (label : ℕ) → trees_in (map plan_of l.trees.items) (suc label) ≡ bottom
