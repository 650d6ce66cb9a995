use Rattle.std.proofs.Common.{◌≡◌, suc, ◌+◌, subst, arith, Err, ap}
use Rattle.step_meaning.specs.Syntax.{statements}
use Rattle.backward_transfer.specs.AffineShapes.{plans}
use Rattle.control_flow.specs.Actions.{AtFirst}
use Rattle.unroll.specs.Building.{TellsAt}
use Rattle.unroll.proofs.Refusing.{same_error}
use Rattle.unroll.proofs.trees.fill_heads.Goals as goal

pub loop-label-preserved : goal.loop-label-preserved
loop-label-preserved c =
    let body = statements c.args.graph.now.body in
    let one : suc c.loop-label.label ≡ c.loop-label.label + 1 = omega arith in (
      c.in_ok-fill_head.ensures.count,
      λ limit last first. subst (λ n. AtFirst body n (TellsAt (suc limit) body (plans c.fill_head.new.trees))) one
          (c.in_ok-fill_head.ensures.tells limit last (c.loop-label.invariant.1 limit last first)),
    )

pub returns-clause-tells : goal.returns-clause-tells
returns-clause-tells c limit last first =
    let body = statements c.args.graph.now.body in
    let end = c.loop-label-test.false in
    let count = c.labels-label-end.ensures.count in
    λ label low known. c.loop-label.invariant.1 limit last first label (omega (arith, low, end, count)) known

pub fill_head-requires-clause-few : goal.fill_head-requires-clause-few
fill_head-requires-clause-few c =
    let count = c.labels-label-end.ensures.count in
    let few = c.labels-label-end.ensures.few in
    omega (arith, count, few)

pub returns-in_err-fill_head-clause-wide : goal.returns-in_err-fill_head-clause-wide
returns-in_err-fill_head-clause-wide c limit operands short last is =
    c.in_err-fill_head.ensures.wide limit operands short last (ap Err (same_error _ _ _ c.from_residual.ensures.1 is))
