use Rattle.std.proofs.Common.{◌≡◌, suc, true, sym, ap, ◌∙◌, arith, Err}
use Rattle.step_meaning.specs.Syntax.{statements}
use Rattle.control_flow.specs.Edges.{is_head_by}
use Rattle.control_flow.specs.Labels.{action_at}
use Rattle.backward_transfer.specs.AffineShapes.{plans}
use Rattle.unroll.specs.Building.{TellsAt, left_by}
use Rattle.unroll.proofs.LevelSizes.{heavy_at}
use Rattle.control_flow.proofs.Filling.{all_next, skip_first}
use Rattle.unroll.proofs.Levelling.{tree_first}
use Rattle.unroll.proofs.Refusing.{same_error}
use Rattle.unroll.proofs.trees.fill_head.Goals as goal

pub returns-then-not-is_head-clause-tells : goal.returns-then-not-is_head-clause-tells
returns-then-not-is_head-clause-tells c limit last first =
    let body = statements c.args.graph.now.body in
    skip_first (TellsAt (suc limit) body (plans c.args.trees.now)) body c.args.label c.requires.some (sym c.is_head.ensures ∙ c.if-not-is_head.true) first

pub returns-clause-tells : goal.returns-clause-tells
returns-clause-tells c limit last first =
    let body = statements c.args.graph.now.body in
    let head : is_head_by (action_at body c.args.label) ≡ true = sym c.is_head.ensures ∙ c.if-not-is_head.false in
    let within = c.requires.within in
    let count = c.requires.count in
    tree_first (suc limit) body c.args.trees.now c.args.label c.in_ok-tree.tree (omega (arith, within, count))
    (c.in_ok-tree.ensures.tells (suc limit) limit (ap (λ t. left_by t (suc limit)) head)
    (all_next body (TellsAt limit body (plans c.args.last.now)) c.args.label within last)) first

pub returns-in_err-tree-clause-wide : goal.returns-in_err-tree-clause-wide
returns-in_err-tree-clause-wide c limit operands short last is =
    let body = statements c.args.graph.now.body in
    let head : is_head_by (action_at body c.args.label) ≡ true = sym c.is_head.ensures ∙ c.if-not-is_head.false in
    c.in_err-tree.ensures.wide (suc limit) limit operands short (ap (λ t. left_by t (suc limit)) head)
    (all_next body (TellsAt limit body (plans c.args.last.now)) c.args.label c.requires.within last) (ap Err (same_error _ _ _ c.from_residual.ensures.1 is))

pub returns-in_err-tree-clause-full : goal.returns-in_err-tree-clause-full
returns-in_err-tree-clause-full c limit number last is =
    let body = statements c.args.graph.now.body in
    let head : is_head_by (action_at body c.args.label) ≡ true = sym c.is_head.ensures ∙ c.if-not-is_head.false in
    let within = c.requires.within in
    heavy_at body (suc limit) c.args.label within
    (c.in_err-tree.ensures.full (suc limit) limit number (ap (λ t. left_by t (suc limit)) head)
    (all_next body (TellsAt limit body (plans c.args.last.now)) c.args.label within last) (ap Err (same_error _ _ _ c.from_residual.ensures.1 is)))
