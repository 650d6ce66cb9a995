use Rattle.std.proofs.Common.{◌≡◌, suc, true, sym, ap, ◌∙◌, arith}
use Rattle.step_meaning.specs.Syntax.{statements}
use Rattle.control_flow.specs.Edges.{is_head_by}
use Rattle.control_flow.specs.Labels.{action_at}
use Rattle.control_flow.specs.Sizing.{HoldsAt, held}
use Rattle.control_flow.proofs.Filling.{all_next, put_first}
use Rattle.control_flow.proofs.Holding.{head_is}
use Rattle.control_flow.proofs.sizes.fill_head.Goals as goal

pub returns-then-is_head-clause-exact : goal.returns-then-is_head-clause-exact
returns-then-is_head-clause-exact c each level are last first =
    let body = statements c.args.graph.now.body in
    let head : is_head_by (action_at body c.args.label) ≡ true = sym c.is_head.ensures ∙ c.if-is_head.true in
    let within = c.requires.within in
    let count = c.requires.count in
    put_first 0 (λ l n. n ≡ held (each (suc level) l)) body c.args.sizes.now c.args.label c.size_before.result (omega (arith, within, count)) first
    (c.size_before.ensures (each level) (all_next body (HoldsAt (each level) c.args.last.now) c.args.label within last)
    ∙ ap held (head_is each body are level c.args.label within head))
