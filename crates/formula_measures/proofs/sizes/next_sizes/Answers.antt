use Rattle.std.proofs.Common.{◌+◌, ◌<◌, length, ap, ◌∙◌, arith}
use Rattle.step_meaning.specs.Syntax.{statements}
use Rattle.control_flow.specs.Labels.{all_labels}
use Rattle.control_flow.specs.Sizing.{HoldsAt, held, held_at}
use Rattle.control_flow.proofs.Filling.{all_next}
use Rattle.control_flow.proofs.Measuring.{length_more, one_more}
use Rattle.formula_measures.specs.Measures.{next_size}
use Rattle.formula_measures.proofs.Deep.{next_from}
use Rattle.formula_measures.proofs.sizes.next_sizes.Goals as goal

pub loop-label-preserved : goal.loop-label-preserved
loop-label-preserved c =
    let body = statements c.args.graph.now.body in
    let label = c.loop-label.label in
    let items = c.in_ok-push-2.ensures.items in
    let test = c.loop-label-test.true in
    let count = c.labels-label-end.ensures.count in
    let some = c.loop-label.invariant.1 in
    let inside : label < length (all_labels body) = omega (arith, test, count) in (
      ap length items ∙ length_more c.loop-label.sizes.items c.size_before.result ∙ ap (λ n. n + 1) c.loop-label.invariant.0,
      omega (arith, some),
      λ f one k less. ap (λ list. held_at list k) items
          ∙ one_more c.loop-label.sizes.items c.size_before.result label (λ l. held (next_size body f l)) c.loop-label.invariant.0 (c.loop-label.invariant.2 f one)
          (c.size_before.ensures f (all_next body (HoldsAt f c.args.part.now) label inside one) ∙ ap held (next_from body f label some)) k less,
    )

pub returns-clause-count : goal.returns-clause-count
returns-clause-count c =
    let end = c.loop-label-test.false in
    let most = c.loop-label.auto.label-end in
    let count = c.labels-label-end.ensures.count in
    let so_far = c.loop-label.invariant.0 in
    omega (arith, end, most, count, so_far)

pub returns-clause-each : goal.returns-clause-each
returns-clause-each c f one label low =
    let end = c.loop-label-test.false in
    let most = c.loop-label.auto.label-end in
    let count = c.labels-label-end.ensures.count in
    c.loop-label.invariant.2 f one label (omega (arith, end, most, count, low))
