use Rattle.std.proofs.Common.{◌≡◌, suc, ◌-◌, length, refl, subst, arith}
use Rattle.step_meaning.specs.Syntax.{statements}
use Rattle.control_flow.specs.Actions.{AtBehind}
use Rattle.control_flow.specs.Labels.{all_labels}
use Rattle.control_flow.specs.Sizing.{HoldsAt}
use Rattle.formula_measures.specs.Measures.{until_size}
use Rattle.formula_measures.proofs.Deep.{all_there, begins}
use Rattle.formula_measures.proofs.sizes.fill.Goals as goal

pub loop-label-init : goal.loop-label-init
loop-label-init c =
    let body = statements c.args.graph.now.body in
    (refl, λ loopless k g one two start. begins body loopless k g c.args.sizes.now c.labels-label.result c.labels-label.ensures.count start)

pub loop-label-preserved : goal.loop-label-preserved
loop-label-preserved c =
    let body = statements c.args.graph.now.body in
    let count = c.fill_one.ensures.count in
    let before = c.loop-label.invariant.0 in
    let test = c.loop-label-test.true in
    let next : c.loop-label.label ≡ suc (c.loop-label.label - 1) = omega (arith, test) in (
      omega (arith, count, before),
      λ loopless k g one two start. c.fill_one.ensures.each loopless k g one two
          (subst (λ m. AtBehind body m (HoldsAt (until_size body k g (length (all_labels body))) c.loop-label.sizes)) next
          (c.loop-label.invariant.1 loopless k g one two start)),
    )

pub returns-clause-each : goal.returns-clause-each
returns-clause-each c loopless k g one two start =
    let body = statements c.args.graph.now.body in
    let end = c.loop-label-test.false in
    all_there body loopless k g c.loop-label.sizes c.loop-label.label (omega (arith, end)) (c.loop-label.invariant.1 loopless k g one two start)
