use Rattle.decision_tree.specs.Plans.{plan_of}
use Rattle.leaf_search.proofs.Leading.{leads_on}
use Rattle.leaf_search.proofs.ahead.led_on.Goals as goal

pub returns-in-Some : goal.returns-in-Some
returns-in-Some g c plan leads =
    leads_on c.args.way.now.sets c.args.stack.now.rows plan (plan_of c.in-Some.tree.now) (plan_of c.led.result.now) (rw c.in-Some.is at leads) c.led.ensures
