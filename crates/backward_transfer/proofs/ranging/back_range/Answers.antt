use Rattle.std.proofs.Common.{◌≡◌, ◌≤◌, ◌<◌, [], arith}
use Rattle.decision_tree.specs.Plans.{plan_of, size_of}
use Rattle.tree_unify.specs.Shapes.{trimmed}
use Rattle.tree_unify.specs.declared.fault.TreeFault.TheVariants.{Full as TooFull}
use Rattle.backward_transfer.proofs.Making.{ranged_small, trimmed_small}
use Rattle.backward_transfer.proofs.ranging.back_range.Goals as goal

pub returns-in-Ok-clause-full : goal.returns-in-Ok-clause-full
returns-in-Ok-clause-full g c count is =
    let more = c.trim.ensures.full count is in
    let larger : 65536 < size_of (trimmed g.R.PartialEq.eq [] (plan_of c.in-Ok.moved.value)) = rw (← c.deref.ensures) more.1 in
    let small : size_of (plan_of c.in-Ok.moved.value) ≤ 65536 = rw (← c.in-Ok.ensures.size) c.in-Ok.ensures.small in
    absurd (trimmed_small g.R.PartialEq.eq (plan_of c.in-Ok.moved.value) 65536 small larger)

pub returns-clause-full : goal.returns-clause-full
returns-clause-full g c count is =
    let same : c.spread_over.new.walk.fault ≡ TooFull count = cc in
    let more = c.in-Err.ensures.full count same in
    (more.0, λ small. more.1 small (ranged_small g.R.PartialEq.eq g.R.Rank.where_greater g.R.Rank.greater_fits g.R.Rank.trend g.R.Rank.substituted g.R.Rank.one_more 65536 c.args.place c.args.range.now (omega arith) (plan_of c.args.tree.now) small))
