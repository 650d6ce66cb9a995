use Rattle.decision_tree.specs.Plans.{plan_of}
use Rattle.leaf_search.specs.Walks.{LeadsTo}
use Rattle.leaf_search.proofs.walk.Way.led.Given as goal

abbrev pub invariant-loop-part : goal.invariant-loop-part
invariant-loop-part g l = LeadsTo l.stack.rows l.self.sets (plan_of l.tree) (plan_of l.part)
