use Rattle.std.proofs.Common.{length}
use Rattle.std.proofs.lemmas.Result.{IfOk-weaker}
use Rattle.step_meaning.specs.Syntax.{statements}
use Rattle.decision_tree.specs.Plans.{plan_of}
use Rattle.ordinal_rank.proofs.Joined.{either_bounds}
use Rattle.ordinal_rank.proofs.entry.with_cells.Goals as goal

pub returns : goal.returns
returns g c =
    let program = c.args.graph.now in
    IfOk-weaker c.joined.result _ _
    (λ made each. either_bounds (length program.names) (statements program.body) (plan_of c.args.tree) (plan_of c.in_ok-more.more) (plan_of made) each
    c.requires.tree c.in_ok-more.ensures)
    c.joined.ensures
