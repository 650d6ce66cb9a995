use Rattle.std.proofs.Common.{length, sym, subst, ◌∙◌}
use Rattle.std.proofs.lemmas.Result.{IfOk-weaker}
use Rattle.step_meaning.specs.Syntax.{statements}
use Rattle.ordinal_rank.specs.Families.{BoundsEnds}
use Rattle.ordinal_rank.proofs.entry.at_entry.Goals as goal

pub returns : goal.returns
returns g c =
    let program = c.args.graph.now in
    IfOk-weaker c.copy.result _ _
    (λ tree is. subst (BoundsEnds (length program.names) (statements program.body)) (sym (is ∙ c.tree_at_entry.ensures)) c.in_ok-family.ensures.bounded.inputs)
    c.copy.ensures
