use Rattle.std.proofs.Common.{◌+◌, length, refl, ap, ◌∙◌, arith}
use Rattle.control_flow.specs.Sizing.{held_at}
use Rattle.control_flow.proofs.Measuring.{length_more, one_more}
use Rattle.formula_measures.proofs.sizes.everywhere.Goals as goal

pub loop-preserved : goal.loop-preserved
loop-preserved c =
    let items = c.in_ok-push.ensures.items in (
      ap length items ∙ length_more c.loop.sizes.items c.args.size ∙ ap (λ n. n + 1) c.loop.invariant.0,
      λ k less. ap (λ list. held_at list k) items
          ∙ one_more c.loop.sizes.items c.args.size c.loop.counter (λ l. c.args.size) c.loop.invariant.0 c.loop.invariant.1 refl k less,
    )

pub returns-clause-count : goal.returns-clause-count
returns-clause-count c =
    let end = c.loop-test.false in
    let most = c.loop.auto.counter-end in
    let count = c.labels-end.ensures.count in
    let so_far = c.loop.invariant.0 in
    omega (arith, end, most, count, so_far)

pub returns-clause-each : goal.returns-clause-each
returns-clause-each c k low =
    let end = c.loop-test.false in
    let most = c.loop.auto.counter-end in
    let count = c.labels-end.ensures.count in
    c.loop.invariant.1 k (omega (arith, end, most, count, low))
