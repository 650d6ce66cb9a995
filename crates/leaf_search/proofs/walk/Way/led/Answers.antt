use Rattle.std.proofs.Common.{false, true}
use Rattle.decision_tree.specs.Plans.{branch, plan_of}
use Rattle.leaf_search.proofs.Leading.{leads_here, leads_on, leads_side}
use Rattle.leaf_search.proofs.walk.Way.led.Goals as goal

pub loop-part-init : goal.loop-part-init
loop-part-init g c = leads_here c.args.self.now.sets c.args.stack.now.rows (plan_of c.args.tree.now)

pub loop-part-preserved-in-Some-true : goal.loop-part-preserved-in-Some-true
loop-part-preserved-in-Some-true g c =
    let before = rw c.in-Node.is at c.loop-part.invariant in
    let side = leads_side c.args.self.now.sets c.args.stack.now.rows c.in-Node.row (plan_of c.in-Node.yes.value) (plan_of c.in-Node.no.value) true (rw c.in-Some-true.field-0-test at c.in-Some-true.ensures) in
    rw c.deref-part.ensures
    (leads_on c.args.self.now.sets c.args.stack.now.rows (plan_of c.args.tree.now) (branch c.in-Node.row (plan_of c.in-Node.yes.value) (plan_of c.in-Node.no.value)) (plan_of c.in-Node.yes.value) before side)

pub loop-part-preserved : goal.loop-part-preserved
loop-part-preserved g c =
    let before = rw c.in-Node.is at c.loop-part.invariant in
    let side = leads_side c.args.self.now.sets c.args.stack.now.rows c.in-Node.row (plan_of c.in-Node.yes.value) (plan_of c.in-Node.no.value) false (rw c.in-Some-false.field-0-test at c.in-Some-false.ensures) in
    rw c.deref-part-in-Some-false.ensures
    (leads_on c.args.self.now.sets c.args.stack.now.rows (plan_of c.args.tree.now) (branch c.in-Node.row (plan_of c.in-Node.yes.value) (plan_of c.in-Node.no.value)) (plan_of c.in-Node.no.value) before side)
