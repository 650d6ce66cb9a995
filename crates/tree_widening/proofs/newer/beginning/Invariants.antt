use Rattle.std.proofs.Common.{◌≡◌}
use Rattle.decision_tree.specs.Plans.{plan_of}
use Rattle.tree_widening.specs.Leaves.{beginning}
use Rattle.tree_widening.proofs.newer.beginning.Given as goal

-- the part that is left begins where the whole tree does
abbrev pub invariant-loop-at : goal.invariant-loop-at
invariant-loop-at g l = beginning l.trail (plan_of l.at) ≡ beginning l.trail (plan_of l.tree)
