use Rattle.std.proofs.Common.{◌≡◌, suc, ◌+◌, ◌*◌, ◌-◌, ◌^◌, ◌<◌, min, length, refl, ap, ◌∙◌, arith}
use Rattle.step_meaning.specs.Syntax.{statements}
use Rattle.control_flow.specs.Labels.{all_labels}
use Rattle.control_flow.specs.Growth.{factor_at, product_below}
use Rattle.control_flow.specs.Sizing.{held}
use Rattle.control_flow.proofs.Held.{product_left, product_right}
use Rattle.formula_measures.proofs.numbers.product.Goals as goal

pub loop-label-init : goal.loop-label-init
loop-label-init c fitting = refl

pub loop-label-preserved : goal.loop-label-preserved
loop-label-preserved c fitting =
    let body = statements c.args.graph.now.body in
    let label = c.loop-label.label in
    let one : suc label ≡ label + 1 = omega arith in
    let less = c.loop-label-test.true in
    let count = c.labels-label-end.ensures.count in
    let inside : label < length (all_labels body) = omega (arith, less, count) in
    let factor = c.factor.ensures (fitting.fit label inside) in
    c.saturating_mul-product.ensures ∙ ap (λ t. min (t * c.factor.result) (2 ^ 128 - 1)) (c.loop-label.invariant fitting)
    ∙ product_left (2 ^ 128 - 1) (omega arith) (product_below (factor_at body) label) c.factor.result
    ∙ ap (λ t. min (product_below (factor_at body) label * t) (2 ^ 128 - 1)) factor
    ∙ product_right (2 ^ 128 - 1) (omega arith) (product_below (factor_at body) label) (factor_at body label)
    ∙ ap (λ n. held (product_below (factor_at body) n)) one

pub returns : goal.returns
returns c fitting =
    let body = statements c.args.graph.now.body in
    let end = c.loop-label-test.false in
    let most = c.loop-label.auto.label-end in
    let count = c.labels-label-end.ensures.count in
    let last : c.loop-label.label ≡ length (all_labels body) = omega (arith, end, most, count) in
    c.loop-label.invariant fitting ∙ ap (λ n. held (product_below (factor_at body) n)) last
