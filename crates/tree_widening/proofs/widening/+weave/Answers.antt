use Rattle.std.proofs.lemmas.Result.{IfOk-weaker, on_err_weaker}
use Rattle.std.proofs.Common.{subst, ◌∙◌}
use Rattle.decision_tree.specs.Plans.{plan_of}
use Rattle.decision_tree.specs.declared.tree.Tree.{Tree}
use Rattle.tree_widening.specs.Widening.{ExceedFits, WidenedFits}
use Rattle.tree_widening.proofs.Passing.{fits_carried, grown_carried, growing_carried, held_carried}
use Rattle.tree_widening.proofs.widening.+weave.Goals as goal

pub returns-in-Bottom-clause-widened : goal.returns-in-Bottom-clause-widened
returns-in-Bottom-clause-widened g t c =
    rw c.in-Bottom.is (IfOk-weaker c.grow.result _ _
    (λ made is. is ∙ grown_carried g.R.Extrapolates.raised (plan_of c.args.above.now) c.args.holds c.args.walk.now.trail (plan_of c.args.rest.now) (plan_of c.args.new.now) c.requires)
    c.grow.ensures.tree)

pub returns-in-Bottom-clause-wide : goal.returns-in-Bottom-clause-wide
returns-in-Bottom-clause-wide g t c =
    rw c.in-Bottom.is (on_err_weaker c.grow.result
    (λ wide w is fit. wide w is (growing_carried g.R.PartialEq.eq g.R.Extrapolates.raised_fits (plan_of c.args.above.now) c.args.holds c.args.walk.now.trail (plan_of c.args.rest.now) (plan_of c.args.new.now) c.requires fit))
    c.grow.ensures.wide)

pub returns-in-Leaf-clause-widened : goal.returns-in-Leaf-clause-widened
returns-in-Leaf-clause-widened g t c =
    rw c.in-Leaf.is (IfOk-weaker c.hold.result _ _
    (λ made held. held_carried g.R.Rank c.in-Leaf.why c.in-Leaf.rank c.args.walk.now.trail (plan_of c.args.rest.now) (plan_of c.args.new.now) (plan_of made.value) c.requires held)
    c.hold.ensures.tree)

pub returns-in-Leaf-clause-wide : goal.returns-in-Leaf-clause-wide
returns-in-Leaf-clause-wide g t c =
    rw c.in-Leaf.is (on_err_weaker c.hold.result
    (λ wide w is fit. wide w is (fits_carried g.R.PartialEq.eq (ExceedFits g.R.Rank.greater_fits c.in-Leaf.rank) c.args.walk.now.trail (plan_of c.args.rest.now) (plan_of c.args.new.now) c.requires fit))
    c.hold.ensures.wide)

pub returns-in-Err-clause-wide : goal.returns-in-Err-clause-wide
returns-in-Err-clause-wide g t c w is fit =
    c.in-Err.ensures.wide w is c.args.walk.now.trail c.in-Node.row (c.in_ok-this-in-Node.ensures.trail ∙ c.in_ok-down-in-Node.ensures.down)
    (subst (λ (tree : Tree _). WidenedFits g.R.PartialEq.eq g.R.Rank.greater_fits g.R.Extrapolates.raised_fits (plan_of c.args.new.now) (plan_of c.args.above.now)
    c.args.holds c.args.walk.now.trail (plan_of tree)) c.in-Node.is fit).1
