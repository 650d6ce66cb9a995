use Rattle.std.proofs.Common.{◌<◌, length, arith}
use Rattle.decision_tree.specs.Plans.{plan_of}
use Rattle.tree_check.proofs.Walked.{walked_both, walked_first}
use Rattle.tree_check.proofs.giving.+giving.Goals as goal

pub returns-in_err-give_up_within-in-Node-clause-walked : goal.returns-in_err-give_up_within-in-Node-clause-walked
returns-in_err-give_up_within-in-Node-clause-walked g t c =
    let near = rw c.deref_mut.ensures.value at c.give_up_within.ensures.walked in
    rw c.in-Node.is
    (walked_first c.args.label c.args.found.now c.in-Node.row (plan_of c.in-Node.yes.value) (plan_of c.in-Node.no.value) (plan_of c.give_up_within.new.tree)
    c.args.at.now.passed c.args.at.now.next c.give_up_within.new.at.next c.args.drops.now.items c.give_up_within.new.drops.items near)

pub returns-in_err-give_up_within-in-Node-2-clause-walked : goal.returns-in_err-give_up_within-in-Node-2-clause-walked
returns-in_err-give_up_within-in-Node-2-clause-walked g t c =
    let near = rw c.deref_mut.ensures.value at c.give_up_within.ensures.walked in
    let count = rw c.deref_mut.ensures.value at c.in_ok-give_up_within-in-Node.ensures.passed in
    let low : c.give_up_within.new.at.next < length c.args.found.now = omega arith in
    let far = rw c.deref_mut-then-at-found.ensures.value at c.give_up_within-then-at-found.ensures.walked in
    rw c.in-Node.is
    (walked_both c.args.label c.args.found.now c.in-Node.row (plan_of c.in-Node.yes.value) (plan_of c.in-Node.no.value) (plan_of c.give_up_within.new.tree)
    (plan_of c.give_up_within-then-at-found.new.tree) c.args.at.now.passed c.give_up_within.new.at.passed c.args.at.now.next c.give_up_within.new.at.next
    c.give_up_within-then-at-found.new.at.next c.args.drops.now.items c.give_up_within.new.drops.items c.give_up_within-then-at-found.new.drops.items
    (count low) near far)

pub returns-in_ok-give_up_within-in-Node-2-clause-walked : goal.returns-in_ok-give_up_within-in-Node-2-clause-walked
returns-in_ok-give_up_within-in-Node-2-clause-walked g t c =
    let near = rw c.deref_mut.ensures.value at c.give_up_within.ensures.walked in
    let count = rw c.deref_mut.ensures.value at c.in_ok-give_up_within-in-Node.ensures.passed in
    let low : c.give_up_within.new.at.next < length c.args.found.now = omega arith in
    let far = rw c.deref_mut-then-at-found.ensures.value at c.give_up_within-then-at-found.ensures.walked in
    rw c.in-Node.is
    (walked_both c.args.label c.args.found.now c.in-Node.row (plan_of c.in-Node.yes.value) (plan_of c.in-Node.no.value) (plan_of c.give_up_within.new.tree)
    (plan_of c.give_up_within-then-at-found.new.tree) c.args.at.now.passed c.give_up_within.new.at.passed c.args.at.now.next c.give_up_within.new.at.next
    c.give_up_within-then-at-found.new.at.next c.args.drops.now.items c.give_up_within.new.drops.items c.give_up_within-then-at-found.new.drops.items
    (count low) near far)

pub returns-else-at-found-clause-walked : goal.returns-else-at-found-clause-walked
returns-else-at-found-clause-walked g t c =
    let near = rw c.deref_mut.ensures.value at c.give_up_within.ensures.walked in
    rw c.in-Node.is
    (walked_first c.args.label c.args.found.now c.in-Node.row (plan_of c.in-Node.yes.value) (plan_of c.in-Node.no.value) (plan_of c.give_up_within.new.tree)
    c.args.at.now.passed c.args.at.now.next c.give_up_within.new.at.next c.args.drops.now.items c.give_up_within.new.drops.items near)
