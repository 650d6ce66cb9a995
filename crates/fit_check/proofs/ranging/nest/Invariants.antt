use Rattle.std.proofs.Common.{◌≡◌, vec_len}
use Rattle.decision_tree.specs.Plans.{plan_of}
use Rattle.fit_check.specs.Ranges.{nested}
use Rattle.fit_check.proofs.ranging.nest.Given as goal

-- what is left, before the tree so far, is all
abbrev pub invariant-loop-kind : goal.invariant-loop-kind
invariant-loop-kind l = nested l.kinds.items (plan_of l.tree) ≡ nested l.fn.kinds.items (plan_of l.fn.end)

abbrev pub decreases-loop-kind : goal.decreases-loop-kind
decreases-loop-kind l = vec_len l.kinds
