use Rattle.std.proofs.Common.{◌≡◌, false, sym, ap, ◌∙◌, arith, Err}
use Rattle.step_meaning.specs.Syntax.{statements}
use Rattle.control_flow.specs.Edges.{is_head_by}
use Rattle.control_flow.specs.Labels.{action_at}
use Rattle.backward_transfer.specs.AffineShapes.{plans}
use Rattle.unroll.specs.Building.{TellsAt, left_by}
use Rattle.unroll.proofs.LevelSizes.{heavy_at}
use Rattle.control_flow.proofs.Filling.{behind_next, skip_behind}
use Rattle.unroll.proofs.Levelling.{tree_behind}
use Rattle.unroll.proofs.Refusing.{same_error}
use Rattle.unroll.proofs.trees.fill_one.Goals as goal

pub returns-then-is_head-clause-tells : goal.returns-then-is_head-clause-tells
returns-then-is_head-clause-tells c limit behind =
    let body = statements c.args.graph.now.body in
    skip_behind (TellsAt limit body (plans c.args.trees.now)) body c.args.label (sym c.is_head.ensures ∙ c.if-is_head.true) behind

pub returns-clause-tells : goal.returns-clause-tells
returns-clause-tells c limit behind =
    let body = statements c.args.graph.now.body in
    let plain : is_head_by (action_at body c.args.label) ≡ false = sym c.is_head.ensures ∙ c.if-is_head.false in
    let within = c.requires.within in
    let count = c.requires.count in
    tree_behind limit body c.args.trees.now c.args.label c.in_ok-tree.tree (omega (arith, within, count))
    (c.in_ok-tree.ensures.tells limit limit (ap (λ t. left_by t limit) plain)
    (behind_next body (TellsAt limit body (plans c.args.trees.now)) c.args.label within plain behind)) behind

pub returns-in_err-tree-clause-wide : goal.returns-in_err-tree-clause-wide
returns-in_err-tree-clause-wide c limit operands short behind is =
    let body = statements c.args.graph.now.body in
    let plain : is_head_by (action_at body c.args.label) ≡ false = sym c.is_head.ensures ∙ c.if-is_head.false in
    c.in_err-tree.ensures.wide limit limit operands short (ap (λ t. left_by t limit) plain)
    (behind_next body (TellsAt limit body (plans c.args.trees.now)) c.args.label c.requires.within plain behind) (ap Err (same_error _ _ _ c.from_residual.ensures.1 is))

pub returns-in_err-tree-clause-full : goal.returns-in_err-tree-clause-full
returns-in_err-tree-clause-full c limit number behind is =
    let body = statements c.args.graph.now.body in
    let plain : is_head_by (action_at body c.args.label) ≡ false = sym c.is_head.ensures ∙ c.if-is_head.false in
    let within = c.requires.within in
    heavy_at body limit c.args.label within
    (c.in_err-tree.ensures.full limit limit number (ap (λ t. left_by t limit) plain)
    (behind_next body (TellsAt limit body (plans c.args.trees.now)) c.args.label within plain behind) (ap Err (same_error _ _ _ c.from_residual.ensures.1 is)))
