use Rattle.std.proofs.Common.{◌≤◌}
use Rattle.decision_tree.proofs.Unwinding.{turns}
use Rattle.decision_tree.proofs.tree.Tree.+drop_trees.Given as goal

abbrev pub invariant-loop-self : goal.invariant-loop-self
invariant-loop-self g l = turns l.self ≤ turns l.initial.self

abbrev pub decreases-loop-self : goal.decreases-loop-self
decreases-loop-self g l = turns l.self
