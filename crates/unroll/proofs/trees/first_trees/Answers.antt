use Rattle.std.proofs.Common.{◌≡◌, length, sym, ap, subst, ◌∙◌, arith, Err}
use Rattle.step_meaning.specs.Syntax.{statements}
use Rattle.backward_transfer.specs.AffineShapes.{plans}
use Rattle.control_flow.specs.Actions.{AtAll}
use Rattle.unroll.specs.Building.{TellsAt}
use Rattle.unroll.proofs.Filling.{unclaimed_first}
use Rattle.backward_transfer.proofs.Putting.{written_back}
use Rattle.unroll.proofs.Refusing.{same_error}
use Rattle.unroll.proofs.trees.first_trees.Goals as goal

pub returns-clause-tells : goal.returns-clause-tells
returns-clause-tells c =
    let body = statements c.args.graph.now.body in
    let long : c.in_ok-trees.trees.len ≡ length c.fill.new.trees =
    sym c.deref_mut.ensures.len ∙ ap length c.deref_mut.ensures.value ∙ c.in_ok-trees.ensures.count ∙ sym c.in_ok-fill.ensures.count in
    subst (λ items. AtAll body (TellsAt 0 body (plans items))) (sym (written_back c.in_ok-trees.trees.len c.fill.new.trees _ long))
    (c.in_ok-fill.ensures.tells 0 (rw c.deref_mut.ensures.value (unclaimed_first body (plans c.in_ok-trees.trees.items) c.in_ok-trees.ensures.end c.in_ok-trees.ensures.others)))

pub returns-in_err-fill-clause-wide : goal.returns-in_err-fill-clause-wide
returns-in_err-fill-clause-wide c operands is =
    let body = statements c.args.graph.now.body in
    c.in_err-fill.ensures.wide 0 operands (omega arith)
    (rw c.deref_mut.ensures.value (unclaimed_first body (plans c.in_ok-trees.trees.items) c.in_ok-trees.ensures.end c.in_ok-trees.ensures.others))
    (ap Err (same_error _ _ _ c.from_residual-in_err-fill.ensures.1 is))

pub returns-in_err-fill-clause-full : goal.returns-in_err-fill-clause-full
returns-in_err-fill-clause-full c number is =
    let body = statements c.args.graph.now.body in
    c.in_err-fill.ensures.full 0 number
    (rw c.deref_mut.ensures.value (unclaimed_first body (plans c.in_ok-trees.trees.items) c.in_ok-trees.ensures.end c.in_ok-trees.ensures.others))
    (ap Err (same_error _ _ _ c.from_residual-in_err-fill.ensures.1 is))
