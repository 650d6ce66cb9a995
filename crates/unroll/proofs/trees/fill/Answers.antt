use Rattle.std.proofs.Common.{◌≡◌, suc, ◌-◌, sym, subst, arith, Err, ap}
use Rattle.step_meaning.specs.Syntax.{statements}
use Rattle.backward_transfer.specs.AffineShapes.{plans}
use Rattle.control_flow.specs.Actions.{AtBehind}
use Rattle.unroll.specs.Building.{TellsAt}
use Rattle.control_flow.proofs.Filling.{all_behind, behind_first}
use Rattle.unroll.proofs.Refusing.{same_error}
use Rattle.unroll.proofs.trees.fill.Goals as goal

pub loop-label-init : goal.loop-label-init
loop-label-init c =
    let body = statements c.args.graph.now.body in (
      c.requires.count,
      λ limit first. subst (λ n. AtBehind body n (TellsAt limit body (plans c.args.trees.now))) (sym c.labels-label.ensures.count)
          (behind_first (TellsAt limit body (plans c.args.trees.now)) body first),
    )

pub loop-label-preserved : goal.loop-label-preserved
loop-label-preserved c =
    let body = statements c.args.graph.now.body in
    let some = c.loop-label-test.true in
    let same : c.loop-label.label ≡ suc (c.loop-label.label - 1) = omega (arith, some) in (
      c.in_ok-fill_one.ensures.count,
      λ limit first. c.in_ok-fill_one.ensures.tells limit
          (subst (λ n. AtBehind body n (TellsAt limit body (plans c.loop-label.trees))) same (c.loop-label.invariant.1 limit first)),
    )

pub returns-clause-tells : goal.returns-clause-tells
returns-clause-tells c limit first =
    let body = statements c.args.graph.now.body in
    let end = c.loop-label-test.false in
    all_behind (TellsAt limit body (plans c.loop-label.trees)) body c.loop-label.label (omega (arith, end)) (c.loop-label.invariant.1 limit first)

pub fill_one-requires-clause-few : goal.fill_one-requires-clause-few
fill_one-requires-clause-few c =
    let count = c.labels-label.ensures.count in
    let few = c.labels-label.ensures.few in
    omega (arith, count, few)

pub returns-in_err-fill_one-clause-wide : goal.returns-in_err-fill_one-clause-wide
returns-in_err-fill_one-clause-wide c limit operands short first is =
    let body = statements c.args.graph.now.body in
    let some = c.loop-label-test.true in
    let same : c.loop-label.label ≡ suc (c.loop-label.label - 1) = omega (arith, some) in
    c.in_err-fill_one.ensures.wide limit operands short
    (subst (λ n. AtBehind body n (TellsAt limit body (plans c.loop-label.trees))) same (c.loop-label.invariant.1 limit first)) (ap Err (same_error _ _ _ c.from_residual.ensures.1 is))

pub returns-in_err-fill_one-clause-full : goal.returns-in_err-fill_one-clause-full
returns-in_err-fill_one-clause-full c limit number first is =
    let body = statements c.args.graph.now.body in
    let some = c.loop-label-test.true in
    let same : c.loop-label.label ≡ suc (c.loop-label.label - 1) = omega (arith, some) in
    c.in_err-fill_one.ensures.full limit number
    (subst (λ n. AtBehind body n (TellsAt limit body (plans c.loop-label.trees))) same (c.loop-label.invariant.1 limit first))
    (ap Err (same_error _ _ _ c.from_residual.ensures.1 is))
