use Rattle.std.proofs.Common.{◌≡◌, suc, length, sym, ap, subst, ◌∙◌, Err}
use Rattle.step_meaning.specs.Syntax.{statements}
use Rattle.control_flow.specs.Labels.{all_labels}
use Rattle.backward_transfer.specs.AffineShapes.{plans}
use Rattle.control_flow.specs.Actions.{AtAll, AtFirst}
use Rattle.unroll.specs.Building.{TellsAt}
use Rattle.unroll.proofs.Filling.{end_first}
use Rattle.backward_transfer.proofs.Putting.{written_back}
use Rattle.unroll.proofs.Refusing.{same_error}
use Rattle.unroll.proofs.trees.next_trees.Goals as goal

pub returns-clause-tells : goal.returns-clause-tells
returns-clause-tells c limit last =
    let body = statements c.args.graph.now.body in
    let own : c.in_ok-trees.trees.len ≡ length c.in_ok-trees.trees.items = sym c.deref_mut.ensures.len ∙ ap length c.deref_mut.ensures.value in
    let middle : c.in_ok-trees.trees.len ≡ length c.fill_heads.new.trees = own ∙ c.in_ok-trees.ensures.count ∙ sym c.in_ok-fill_heads.ensures.count in
    let long : c.in_ok-trees.trees.len ≡ length c.fill.new.trees = own ∙ c.in_ok-trees.ensures.count ∙ sym c.in_ok-fill.ensures.count in
    let heads = c.in_ok-fill_heads.ensures.tells limit last
    (rw c.deref_mut.ensures.value (end_first (suc limit) body (plans c.in_ok-trees.trees.items) c.in_ok-trees.ensures.end)) in
    subst (λ items. AtAll body (TellsAt (suc limit) body (plans items))) (sym (written_back c.in_ok-trees.trees.len c.fill.new.trees _ long))
    (c.in_ok-fill.ensures.tells (suc limit)
    (rw c.deref_mut-2.ensures.value (subst (λ items. AtFirst body (length (all_labels body)) (TellsAt (suc limit) body (plans items)))
    (sym (written_back c.in_ok-trees.trees.len c.fill_heads.new.trees _ middle)) heads)))

pub returns-in_err-fill_heads-clause-wide : goal.returns-in_err-fill_heads-clause-wide
returns-in_err-fill_heads-clause-wide c limit operands short last is =
    c.in_err-fill_heads.ensures.wide limit operands short last (ap Err (same_error _ _ _ c.from_residual-in_err-fill_heads.ensures.1 is))

pub returns-in_err-fill-clause-wide : goal.returns-in_err-fill-clause-wide
returns-in_err-fill-clause-wide c limit operands short last is =
    let body = statements c.args.graph.now.body in
    let own : c.in_ok-trees.trees.len ≡ length c.in_ok-trees.trees.items = sym c.deref_mut.ensures.len ∙ ap length c.deref_mut.ensures.value in
    let middle : c.in_ok-trees.trees.len ≡ length c.fill_heads.new.trees = own ∙ c.in_ok-trees.ensures.count ∙ sym c.in_ok-fill_heads.ensures.count in
    let heads = c.in_ok-fill_heads.ensures.tells limit last
    (rw c.deref_mut.ensures.value (end_first (suc limit) body (plans c.in_ok-trees.trees.items) c.in_ok-trees.ensures.end)) in
    c.in_err-fill.ensures.wide (suc limit) operands short
    (rw c.deref_mut-2.ensures.value (subst (λ items. AtFirst body (length (all_labels body)) (TellsAt (suc limit) body (plans items)))
    (sym (written_back c.in_ok-trees.trees.len c.fill_heads.new.trees _ middle)) heads)) (ap Err (same_error _ _ _ c.from_residual-in_err-fill.ensures.1 is))

pub returns-in_err-fill-clause-full : goal.returns-in_err-fill-clause-full
returns-in_err-fill-clause-full c limit number last is =
    let body = statements c.args.graph.now.body in
    let own : c.in_ok-trees.trees.len ≡ length c.in_ok-trees.trees.items = sym c.deref_mut.ensures.len ∙ ap length c.deref_mut.ensures.value in
    let middle : c.in_ok-trees.trees.len ≡ length c.fill_heads.new.trees = own ∙ c.in_ok-trees.ensures.count ∙ sym c.in_ok-fill_heads.ensures.count in
    let heads = c.in_ok-fill_heads.ensures.tells limit last
    (rw c.deref_mut.ensures.value (end_first (suc limit) body (plans c.in_ok-trees.trees.items) c.in_ok-trees.ensures.end)) in
    c.in_err-fill.ensures.full (suc limit) number
    (rw c.deref_mut-2.ensures.value (subst (λ items. AtFirst body (length (all_labels body)) (TellsAt (suc limit) body (plans items)))
    (sym (written_back c.in_ok-trees.trees.len c.fill_heads.new.trees _ middle)) heads))
    (ap Err (same_error _ _ _ c.from_residual-in_err-fill.ensures.1 is))
