use Rattle.std.proofs.Common.{◌≤◌, ◌<◌, []}
use Rattle.decision_tree.specs.Plans.{plan_of, size_of}
use Rattle.tree_unify.specs.Shapes.{trimmed}
use Rattle.backward_transfer.proofs.Making.{trimmed_small}
use Rattle.backward_transfer.proofs.picking.back_pick.Goals as goal

pub returns-in-Ok-clause-full : goal.returns-in-Ok-clause-full
returns-in-Ok-clause-full g c count is =
    let more = c.trim.ensures.full count is in
    let larger : 65536 < size_of (trimmed g.R.PartialEq.eq [] (plan_of c.in-Ok.moved.value)) = rw (← c.deref.ensures) more.1 in
    let small : size_of (plan_of c.in-Ok.moved.value) ≤ 65536 = rw (← c.in-Ok.ensures.size) c.in-Ok.ensures.small in
    absurd (trimmed_small g.R.PartialEq.eq (plan_of c.in-Ok.moved.value) 65536 small larger)
