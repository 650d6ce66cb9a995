use Rattle.std.proofs.Common.{[], true, subst}
use Rattle.decision_tree.specs.Plans.{plan_of}
use Rattle.tree_widening.specs.Widening.{IsWidened, IsWideningOf}
use Rattle.tree_widening.proofs.Widened.{widened_rows, widened_size}
use Rattle.tree_widening.proofs.widening.widen.Goals as goal

pub returns-in-Ok-clause-rows : goal.returns-in-Ok-clause-rows
returns-in-Ok-clause-rows g c =
    let whole : IsWideningOf g.R.PartialEq.eq g.R.Rank g.R.Extrapolates.raised (plan_of c.args.old.now) (plan_of c.args.new.now) (plan_of c.in-Ok.made.value) =
    subst (λ t. IsWidened g.R.PartialEq.eq g.R.Rank g.R.Extrapolates.raised (plan_of c.args.new.now) (plan_of c.args.old.now) true t (plan_of c.args.old.now) (plan_of c.in-Ok.made.value)) c.new-walk.ensures c.in-Ok.ensures.widened in
    rw c.into_inner.ensures (widened_rows g.R.PartialEq.eq g.met.R.Rank.equal_law g.R.Rank g.R.Extrapolates.raised (plan_of c.args.new.now) (plan_of c.args.old.now) true [] (plan_of c.args.old.now) (plan_of c.in-Ok.made.value) whole)

pub returns-in-Ok-clause-size : goal.returns-in-Ok-clause-size
returns-in-Ok-clause-size g c =
    let whole : IsWideningOf g.R.PartialEq.eq g.R.Rank g.R.Extrapolates.raised (plan_of c.args.old.now) (plan_of c.args.new.now) (plan_of c.in-Ok.made.value) =
    subst (λ t. IsWidened g.R.PartialEq.eq g.R.Rank g.R.Extrapolates.raised (plan_of c.args.new.now) (plan_of c.args.old.now) true t (plan_of c.args.old.now) (plan_of c.in-Ok.made.value)) c.new-walk.ensures c.in-Ok.ensures.widened in
    rw c.into_inner.ensures (widened_size g.R.PartialEq.eq g.met.R.Rank.equal_law g.R.Rank g.R.Extrapolates.raised (plan_of c.args.new.now) (plan_of c.args.old.now) true [] (plan_of c.args.old.now) (plan_of c.in-Ok.made.value) whole)
