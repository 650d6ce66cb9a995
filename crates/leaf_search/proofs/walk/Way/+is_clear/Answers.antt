use Rattle.std.proofs.Common.{refl}
use Rattle.decision_tree.specs.Plans.{plan_of}
use Rattle.leaf_search.proofs.Keeping.{both_clear, that_clear, this_clear}
use Rattle.leaf_search.proofs.walk.Way.+is_clear.Goals as goal

pub returns-in-Some-true : goal.returns-in-Some-true
returns-in-Some-true g t c clear =
    let yes_clear = rw c.deref.ensures at c.is_clear.ensures clear in
    rw c.in-Node.is (this_clear g.R.Rank c.args.self.now.edge c.args.self.now.sets c.args.stack.now.rows c.in-Node.row (plan_of c.in-Node.yes.value) (plan_of c.in-Node.no.value) (rw c.in-Some-true.field-0-test at c.in-Some-true.ensures).excluded yes_clear)

pub returns-in-Some-false : goal.returns-in-Some-false
returns-in-Some-false g t c clear =
    let no_clear = rw c.deref-in-Some-false.ensures at c.is_clear-in-Some-false.ensures clear in
    rw c.in-Node.is (that_clear g.R.Rank c.args.self.now.edge c.args.self.now.sets c.args.stack.now.rows c.in-Node.row (plan_of c.in-Node.yes.value) (plan_of c.in-Node.no.value) (rw c.in-Some-false.field-0-test at c.in-Some-false.ensures).excluded no_clear)

pub returns-then-is_clear : goal.returns-then-is_clear
returns-then-is_clear g t c clear =
    let yes_clear = rw c.deref-in-None.ensures at c.if-is_clear.ensures refl in
    let no_clear = rw c.deref-then-is_clear.ensures at c.is_clear-then-is_clear.ensures clear in
    rw c.in-Node.is (both_clear g.R.Rank c.args.self.now.edge c.args.self.now.sets c.args.stack.now.rows c.in-Node.row (plan_of c.in-Node.yes.value) (plan_of c.in-Node.no.value) yes_clear no_clear)
