use Rattle.std.proofs.Common.{◌≡◌, ℕ, suc, ◌+◌, ◌*◌, ◌-◌, ◌^◌, ◌<◌, min, length, refl, ap, ◌∙◌, arith}
use Rattle.step_meaning.specs.Syntax.{statements}
use Rattle.control_flow.specs.Labels.{all_labels}
use Rattle.control_flow.specs.Growth.{factor_at, product_below, test_size}
use Rattle.control_flow.specs.Sizing.{held}
use Rattle.control_flow.proofs.Held.{product_left, product_right}
use Rattle.control_flow.proofs.growth.growth_of.Goals as goal

pub loop-label-init : goal.loop-label-init
loop-label-init c = refl

pub loop-label-preserved : goal.loop-label-preserved
loop-label-preserved c =
    let body = statements c.args.graph.now.body in
    let label = c.loop-label.label in
    let powers : ℕ → ℕ = λ l. factor_at body l ^ (c.args.tests + 1) in
    let one : suc label ≡ label + 1 = omega arith in
    let less = c.loop-label-test.true in
    let count = c.labels-label-end.ensures.count in
    let inside : label < length (all_labels body) = omega (arith, less, count) in
    let power = c.power.ensures (factor_at body label) (c.factor.ensures (c.requires.fit label inside)) in
    c.saturating_mul-product.ensures ∙ ap (λ t. min (t * c.power.result) (2 ^ 128 - 1)) c.loop-label.invariant
    ∙ product_left (2 ^ 128 - 1) (omega arith) (product_below powers label) c.power.result
    ∙ ap (λ t. min (product_below powers label * t) (2 ^ 128 - 1)) power
    ∙ product_right (2 ^ 128 - 1) (omega arith) (product_below powers label) (powers label) ∙ ap (λ n. held (product_below powers n)) one

pub returns : goal.returns
returns c =
    let body = statements c.args.graph.now.body in
    let powers : ℕ → ℕ = λ l. factor_at body l ^ (c.args.tests + 1) in
    let end = c.loop-label-test.false in
    let most = c.loop-label.auto.label-end in
    let count = c.labels-label-end.ensures.count in
    let last : c.loop-label.label ≡ length (all_labels body) = omega (arith, end, most, count) in
    let greatest = c.greatest_of_tests.ensures in
    let size : c.greatest_of_tests.result + 1 ≡ test_size body = omega (arith, greatest) in
    c.saturating_mul.ensures ∙ ap (λ t. min (t * c.loop-label.product) (2 ^ 128 - 1)) c.saturating_add.ensures
    ∙ product_left (2 ^ 128 - 1) (omega arith) (c.greatest_of_tests.result + 1) c.loop-label.product
    ∙ ap (λ t. min ((c.greatest_of_tests.result + 1) * t) (2 ^ 128 - 1)) c.loop-label.invariant
    ∙ product_right (2 ^ 128 - 1) (omega arith) (c.greatest_of_tests.result + 1) (product_below powers c.loop-label.label)
    ∙ ap (λ t. held (t * product_below powers c.loop-label.label)) size
    ∙ ap (λ n. held (test_size body * product_below powers n)) last
