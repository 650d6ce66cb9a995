use Rattle.std.proofs.Common.{inl, inr, true, false, Err, refl, sym, ap, subst, ◌∙◌, arith}
use Rattle.decision_tree.specs.Plans.{plan_of}
use Rattle.backward_transfer.specs.AffineShapes.{plans, tree_at}
use Rattle.backward_transfer.proofs.Putting.{plans_length, plans_set}
use Rattle.control_flow.specs.Transitions.{first_target, is_given, second_target}
use Rattle.backward_sweeps.specs.Remaking.{AreKept, AreRemadeFrom, IsRemade, IsRemadeSmall, RemadeFits, parts_of}
use Rattle.backward_sweeps.proofs.Passing.{action_read, put_kept, put_made, top_by}
use Rattle.backward_sweeps.proofs.pass.remake.Goals as goal

pub returns-in-Ok-clause-given : goal.returns-in-Ok-clause-given
returns-in-Ok-clause-given c =
    subst (λ t. AreKept is_given c.args.transitions.now (plans c.args.trees.now) t) (sym (plans_set c.args.trees.now c.args.label c.in-Ok.tree))
    (put_kept is_given c.args.transitions.now (plans c.args.trees.now) c.args.label (plan_of c.in-Ok.tree) c.requires.open)

pub returns-in-Ok-clause-remade : goal.returns-in-Ok-clause-remade
returns-in-Ok-clause-remade c all there =
    let low = c.requires.label in
    let same = c.requires.labels in
    let long = plans_length c.args.trees.now in
    let parts = parts_of c.args.operands.now in
    subst (λ t. AreRemadeFrom c.args.label all parts c.args.transitions.now t) (sym (plans_set c.args.trees.now c.args.label c.in-Ok.tree))
    (put_made parts c.args.transitions.now (plans c.args.trees.now) c.args.label (plan_of c.in-Ok.tree) c.requires.open all true
    (omega (arith, low, same, long)) c.requires.onward
    (subst (λ transition. IsRemade parts c.args.label all transition (plans c.args.trees.now) (plan_of c.in-Ok.tree))
    (action_read c.args.transitions.now c.args.label c.index-transitions-place.result c.index-transitions-place.is low) (inl c.in-Ok.ensures.tree)) there)

pub returns-in_ok-trees-in-Err-clause-given : goal.returns-in_ok-trees-in-Err-clause-given
returns-in_ok-trees-in-Err-clause-given c =
    subst (λ t. AreKept is_given c.args.transitions.now (plans c.args.trees.now) t)
    (sym (plans_set c.args.trees.now c.args.label c.in_ok-trees-in-Err.field-0))
    (put_kept is_given c.args.transitions.now (plans c.args.trees.now) c.args.label (plan_of c.in_ok-trees-in-Err.field-0) c.requires.open)

pub returns-in_ok-trees-in-Err-clause-remade : goal.returns-in_ok-trees-in-Err-clause-remade
returns-in_ok-trees-in-Err-clause-remade c all there =
    let low = c.requires.label in
    let same = c.requires.labels in
    let long = plans_length c.args.trees.now in
    let parts = parts_of c.args.operands.now in
    let transition = c.index-transitions-place.result in
    let this = tree_at (plans c.args.trees.now) (first_target transition) in
    let that = tree_at (plans c.args.trees.now) (second_target transition) in
    let given_up = c.in_ok-trees-in-Err.ensures in
    let refused = c.remade.ensures in
    subst (λ t. AreRemadeFrom c.args.label false parts c.args.transitions.now t)
    (sym (plans_set c.args.trees.now c.args.label c.in_ok-trees-in-Err.field-0))
    (put_made parts c.args.transitions.now (plans c.args.trees.now) c.args.label (plan_of c.in_ok-trees-in-Err.field-0) c.requires.open all false
    (omega (arith, low, same, long)) c.requires.onward
    (subst (λ a. IsRemade parts c.args.label false a (plans c.args.trees.now) (plan_of c.in_ok-trees-in-Err.field-0))
    (action_read c.args.transitions.now c.args.label transition c.index-transitions-place.is low)
    (inr (
      refl,
      top_by (RemadeFits parts c.args.label transition this that) (IsRemadeSmall parts c.args.label transition this that) c.in-Err.fault
          (plan_of c.in_ok-trees-in-Err.field-0) given_up.full given_up.wide given_up.memory
          (λ count is. refused.full count (c.in-Err.is ∙ ap Err is)) (λ w is. refused.wide w (c.in-Err.is ∙ ap Err is))
          (λ w is. refused.operands w (c.in-Err.is ∙ ap Err is)),
    ))) there)
