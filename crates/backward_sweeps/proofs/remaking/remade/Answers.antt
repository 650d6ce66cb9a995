use Rattle.std.proofs.Common.{◌≡◌, refl, sym, subst, ◌∙◌}
use Rattle.backward_transfer.specs.AffineShapes.{cut, plans, tree_at}
use Rattle.control_flow.specs.Transitions.{first_target, second_target}
use Rattle.decision_tree.specs.Plans.{Plan, plan_of}
use Rattle.decision_tree.specs.declared.affine_rank.AffineRank.{AffineRank}
use Rattle.backward_sweeps.specs.Before.{before}
use Rattle.backward_sweeps.specs.Remaking.{made}
use Rattle.backward_sweeps.proofs.Stepping.{before_cut}
use Rattle.backward_sweeps.proofs.remaking.remade.Goals as goal

pub made-requires : goal.made-requires
made-requires c =
    let transition = c.args.transition.now in
    let trees = plans c.args.trees.now in
    subst (λ t. cut t ≡ t) (sym c.in_ok-moved.ensures.tree)
    (before_cut c.args.operands.now.all transition (tree_at trees (first_target transition)) (tree_at trees (second_target transition)))

pub returns-then-stays-clause-tree : goal.returns-then-stays-clause-tree
returns-then-stays-clause-tree c =
    let transition = c.args.transition.now in
    let trees = plans c.args.trees.now in
    let moved : Plan AffineRank = plan_of c.in_ok-moved.moved in
    let step : Plan AffineRank = before c.args.operands.now.all transition (tree_at trees (first_target transition)) (tree_at trees (second_target transition)) in
    let is : moved ≡ step = c.in_ok-moved.ensures.tree in
    let whole : cut moved ≡ moved =
    subst (λ t. cut t ≡ t) (sym is) (before_cut c.args.operands.now.all transition (tree_at trees (first_target transition)) (tree_at trees (second_target transition))) in
    let same : made (plan_of c.tree_at-goal.result.now) (plan_of c.tree_at-keep.result.now) moved ≡ moved = c.if-stays.ensures refl whole in
    is ∙ sym (rw (c.tree_at-goal.ensures, c.tree_at-keep.ensures, is) at same)
