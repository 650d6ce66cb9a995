use Rattle.std.proofs.Common.{◌+◌, ◌*◌, ◌-◌, ◌^◌, ◌<◌, min, length, ap, ◌∙◌, arith}
use Rattle.step_meaning.specs.Syntax.{statements}
use Rattle.control_flow.specs.Labels.{all_labels}
use Rattle.control_flow.specs.Sizing.{held, held_at}
use Rattle.control_flow.proofs.Held.{free_kept}
use Rattle.control_flow.proofs.Measuring.{length_more, one_more}
use Rattle.formula_measures.proofs.sizes.products.Goals as goal

pub loop-label-preserved : goal.loop-label-preserved
loop-label-preserved c =
    let label = c.loop-label.label in
    let items = c.in_ok-push.ensures.items in
    let test = c.loop-label-test.true in
    let count = c.labels-label-end.ensures.count in
    let inside : label < length (all_labels (statements c.args.graph.now.body)) = omega (arith, test, count) in (
      ap length items ∙ length_more c.loop-label.sizes.items c.saturating_mul-in-loop-label.result ∙ ap (λ n. n + 1) c.loop-label.invariant.0,
      λ f g one two k less. ap (λ list. held_at list k) items
          ∙ one_more c.loop-label.sizes.items c.saturating_mul-in-loop-label.result label (λ l. held (4 * (f l * g l))) c.loop-label.invariant.0 (c.loop-label.invariant.1 f g one two)
          (c.saturating_mul-in-loop-label.ensures ∙ ap (λ t. min (t * 4) (2 ^ 128 - 1)) c.saturating_mul.ensures
          ∙ free_kept (2 ^ 128 - 1) (omega arith) (held_at c.args.left.now label) (held_at c.args.right.now label) (f label) (g label) (one label inside) (two label inside)) k less,
    )

pub returns-clause-count : goal.returns-clause-count
returns-clause-count c =
    let end = c.loop-label-test.false in
    let most = c.loop-label.auto.label-end in
    let count = c.labels-label-end.ensures.count in
    let so_far = c.loop-label.invariant.0 in
    omega (arith, end, most, count, so_far)

pub returns-clause-each : goal.returns-clause-each
returns-clause-each c f g one two label low =
    let end = c.loop-label-test.false in
    let most = c.loop-label.auto.label-end in
    let count = c.labels-label-end.ensures.count in
    c.loop-label.invariant.1 f g one two label (omega (arith, end, most, count, low))
