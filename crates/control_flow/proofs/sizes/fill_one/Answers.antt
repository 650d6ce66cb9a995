use Rattle.std.proofs.Common.{◌≡◌, false, sym, ap, ◌∙◌, arith}
use Rattle.step_meaning.specs.Syntax.{statements}
use Rattle.control_flow.specs.Edges.{is_head_by}
use Rattle.control_flow.specs.Labels.{action_at}
use Rattle.control_flow.specs.Sizing.{HoldsAt, held}
use Rattle.control_flow.proofs.Filling.{behind_next, put_behind}
use Rattle.control_flow.proofs.Holding.{plain_is}
use Rattle.control_flow.proofs.sizes.fill_one.Goals as goal

pub returns-then-not-is_head-clause-exact : goal.returns-then-not-is_head-clause-exact
returns-then-not-is_head-clause-exact c each level are behind =
    let body = statements c.args.graph.now.body in
    let plain : is_head_by (action_at body c.args.label) ≡ false = sym c.is_head.ensures ∙ c.if-not-is_head.true in
    let within = c.requires.within in
    let count = c.requires.count in
    put_behind 0 (λ l n. n ≡ held (each level l)) body c.args.sizes.now c.args.label c.size_before.result (omega (arith, within, count)) behind
    (c.size_before.ensures (each level) (behind_next body (HoldsAt (each level) c.args.sizes.now) c.args.label within plain behind)
    ∙ ap held (plain_is each body are level c.args.label within plain))
