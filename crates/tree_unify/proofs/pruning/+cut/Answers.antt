use Rattle.std.proofs.Common.{subst}
use Rattle.decision_tree.specs.Plans.{plan_of}
use Rattle.tree_unify.specs.Pruned.{AreSides, IsLeft, IsPartOf, SameLeaves}
use Rattle.tree_unify.proofs.Cutting.{both_sides, no_side, part_of_both, part_of_no, part_of_yes, yes_side}
use Rattle.tree_unify.proofs.pruning.+cut.Goals as goal

pub returns-in_ok-part-in-Yes-clause-leaves : goal.returns-in_ok-part-in-Yes-clause-leaves
returns-in_ok-part-in-Yes-clause-leaves g t c =
    let has = g.D.NumDomain.has c.in-Some.at.value in
    let sides = subst (AreSides g.D.NumDomain.has c.in-Node.row has) c.in-Yes.is c.in_ok-sides.ensures.sides in
    let same : SameLeaves (IsLeft g.D.NumDomain.has c.in-Yes.inside) (plan_of c.in_ok-part-in-Yes.part.value) (plan_of c.in-Node.yes.value) = rw (← c.deref-in-Yes.ensures) c.in_ok-part-in-Yes.ensures.leaves in
    rw (c.in-Some.is, c.in-Node.is) (yes_side c.in-Node.row (plan_of c.in-Node.yes.value) (plan_of c.in-Node.no.value) has (IsLeft g.D.NumDomain.has c.in-Yes.inside) sides.1 (plan_of c.in_ok-part-in-Yes.part.value) sides.0 same)

pub returns-in_ok-part-in-Yes-clause-part : goal.returns-in_ok-part-in-Yes-clause-part
returns-in_ok-part-in-Yes-clause-part g t c =
    let part : IsPartOf (plan_of c.in_ok-part-in-Yes.part.value) (plan_of c.in-Node.yes.value) = rw (← c.deref-in-Yes.ensures) c.in_ok-part-in-Yes.ensures.part in
    rw c.in-Node.is (part_of_yes c.in-Node.row (plan_of c.in-Node.yes.value) (plan_of c.in-Node.no.value) (plan_of c.in_ok-part-in-Yes.part.value) part)

pub returns-in_ok-part-in-No-clause-leaves : goal.returns-in_ok-part-in-No-clause-leaves
returns-in_ok-part-in-No-clause-leaves g t c =
    let has = g.D.NumDomain.has c.in-Some.at.value in
    let sides = subst (AreSides g.D.NumDomain.has c.in-Node.row has) c.in-No.is c.in_ok-sides.ensures.sides in
    let same : SameLeaves (IsLeft g.D.NumDomain.has c.in-No.below) (plan_of c.in_ok-part-in-No.part.value) (plan_of c.in-Node.no.value) = rw (← c.deref-in-No.ensures) c.in_ok-part-in-No.ensures.leaves in
    rw (c.in-Some.is, c.in-Node.is) (no_side c.in-Node.row (plan_of c.in-Node.yes.value) (plan_of c.in-Node.no.value) has (IsLeft g.D.NumDomain.has c.in-No.below) sides.1 (plan_of c.in_ok-part-in-No.part.value) sides.0 same)

pub returns-in_ok-part-in-No-clause-part : goal.returns-in_ok-part-in-No-clause-part
returns-in_ok-part-in-No-clause-part g t c =
    let part : IsPartOf (plan_of c.in_ok-part-in-No.part.value) (plan_of c.in-Node.no.value) = rw (← c.deref-in-No.ensures) c.in_ok-part-in-No.ensures.part in
    rw c.in-Node.is (part_of_no c.in-Node.row (plan_of c.in-Node.yes.value) (plan_of c.in-Node.no.value) (plan_of c.in_ok-part-in-No.part.value) part)

pub returns-in_ok-part-in-Ok-clause-leaves : goal.returns-in_ok-part-in-Ok-clause-leaves
returns-in_ok-part-in-Ok-clause-leaves g t c =
    let has = g.D.NumDomain.has c.in-Some.at.value in
    let inside = IsLeft g.D.NumDomain.has c.in-Both.inside in
    let below = IsLeft g.D.NumDomain.has c.in-Both.below in
    let sides = subst (AreSides g.D.NumDomain.has c.in-Node.row has) c.in-Both.is c.in_ok-sides.ensures.sides in
    let here : SameLeaves inside (plan_of c.in_ok-first-in-Both.first.value) (plan_of c.in-Node.yes.value) = rw (← c.deref-in-Both.ensures) c.in_ok-first-in-Both.ensures.leaves in
    let there : SameLeaves below (plan_of c.in-Ok.other.value) (plan_of c.in-Node.no.value) = rw (← c.deref-in-Both-2.ensures) c.in-Ok.ensures.leaves in
    rw (c.in-Some.is, c.in_ok-part-in-Ok.ensures.tree, c.in-Node.is) (both_sides c.in-Node.row (plan_of c.in-Node.yes.value) (plan_of c.in-Node.no.value) has inside below sides.0 sides.1 g.R.PartialEq.eq g.met.R.Rank.equal_law (plan_of c.in_ok-first-in-Both.first.value) (plan_of c.in-Ok.other.value) here there)

pub returns-in_ok-part-in-Ok-clause-part : goal.returns-in_ok-part-in-Ok-clause-part
returns-in_ok-part-in-Ok-clause-part g t c =
    let here : IsPartOf (plan_of c.in_ok-first-in-Both.first.value) (plan_of c.in-Node.yes.value) = rw (← c.deref-in-Both.ensures) c.in_ok-first-in-Both.ensures.part in
    let there : IsPartOf (plan_of c.in-Ok.other.value) (plan_of c.in-Node.no.value) = rw (← c.deref-in-Both-2.ensures) c.in-Ok.ensures.part in
    rw (c.in_ok-part-in-Ok.ensures.tree, c.in-Node.is) (part_of_both c.in-Node.row (plan_of c.in-Node.yes.value) (plan_of c.in-Node.no.value) g.R.PartialEq.eq (plan_of c.in_ok-first-in-Both.first.value) (plan_of c.in-Ok.other.value) here there)
