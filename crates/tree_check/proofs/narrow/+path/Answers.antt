use Rattle.std.proofs.Common.{[], arith}
use Rattle.std.proofs.lemmas.Grind.{common_steps}
use Rattle.decision_tree.specs.Plans.{plan_of}
use Rattle.constraint_stack.proofs.Choosing.{held_same}
use Rattle.tree_check.proofs.Narrowing.{among_first, among_second}
use Rattle.tree_check.proofs.narrow.+path.Goals as goal

pub returns-then-branch-clause-among : goal.returns-then-branch-clause-among
returns-then-branch-clause-among g t c found empty =
    let inside = rw c.deref.ensures at c.in_ok-add_path-in-Node.ensures.inside c.if-branch.true in
    let before = rw c.deref.ensures at c.in_ok-add_path-in-Node.ensures.among c.if-branch.true empty in
    rw c.in-Node.is
    (among_first c.args.way.now.sets c.in-Node.row (plan_of c.in-Node.yes.value) (plan_of c.in-Node.no.value) c.add_path.new.stack c.enter.new.stack
    c.in_ok-enter-in-Node.field-0 c.in_ok-enter-in-Node.ensures.same c.args.left.now inside c.in_ok-enter-in-Node.ensures.held before)

pub returns-then-branch-2-clause-among : goal.returns-then-branch-2-clause-among
returns-then-branch-2-clause-among g t c found empty =
    let count = rw c.deref.ensures at c.in_ok-add_path-in-Node.ensures.count c.if-branch.false in
    let still = held_same [] c.args.stack.now c.add_path.new.stack (c.in_ok-add_path-in-Node.ensures.same c.if-branch.false) empty in
    let before = rw c.deref-in-Node.ensures at c.in_ok-add_path-in-Node-2.ensures.among c.if-branch-2.true still in
    rw c.in-Node.is
    (among_second c.args.way.now.sets c.in-Node.row (plan_of c.in-Node.yes.value) (plan_of c.in-Node.no.value) c.add_path-in-Node.new.stack c.enter-then-branch-2.new.stack
    c.in_ok-enter-in-Node-2.field-0 c.in_ok-enter-in-Node-2.ensures.same c.args.left.now c.add_path.new.left count c.in_ok-enter-in-Node-2.ensures.held before)

pub enter-requires : goal.enter-requires
enter-requires g c = grind (arith, common_steps)

pub enter-requires-then-branch-2 : goal.enter-requires-then-branch-2
enter-requires-then-branch-2 g c = grind (arith, common_steps)
