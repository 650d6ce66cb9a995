use Rattle.std.proofs.Common.{◌≡◌, suc, ◌+◌, max, length, ap, ◌∙◌, arith}
use Rattle.control_flow.specs.Measures.{greatest_below}
use Rattle.control_flow.specs.Sizing.{held_at}
use Rattle.formula_measures.proofs.sizes.greatest_of.Goals as goal

pub loop-label-preserved : goal.loop-label-preserved
loop-label-preserved c =
    let list = c.args.sizes.now in
    let label = c.loop-label.label in
    let one : suc label ≡ label + 1 = omega arith in
    c.max-greatest.ensures ∙ ap (λ t. max t (held_at list label)) c.loop-label.invariant ∙ ap (greatest_below (λ l. held_at list l)) one

pub returns : goal.returns
returns c =
    let list = c.args.sizes.now in
    let end = c.loop-label-test.false in
    let most = c.loop-label.auto.label-end in
    let last : c.loop-label.label ≡ length list = omega (arith, end, most) in
    c.loop-label.invariant ∙ ap (greatest_below (λ l. held_at list l)) last
