use Rattle.std.proofs.Common.{length}
use Rattle.std.proofs.lemmas.Result.{IfOk-weaker}
use Rattle.step_meaning.specs.Syntax.{statements}
use Rattle.decision_tree.specs.Plans.{plan_of}
use Rattle.ordinal_rank.proofs.Fit.{given_up_bounds}
use Rattle.ordinal_rank.proofs.entry.ranked.Goals as goal

pub returns-clause-ends : goal.returns-clause-ends
returns-clause-ends g c =
    let program = c.args.graph.now in
    IfOk-weaker c.fit_or_given_up.result _ _
    (λ made same. given_up_bounds (length program.names) (statements program.body) (plan_of c.in_ok-tree.tree) (plan_of made) c.in_ok-tree.ensures same)
    c.fit_or_given_up.ensures.same
