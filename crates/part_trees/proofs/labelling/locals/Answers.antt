use Rattle.std.proofs.Common.{ℕ, suc, ◌<◌, [], ◌∷◌, length, length-append, sym, ap, subst, ◌∙◌, arith}
use Rattle.decision_tree.specs.Plans.{Plan, plan_of}
use Rattle.decision_tree.specs.declared.affine_rank.AffineRank.{AffineRank}
use Rattle.backward_transfer.specs.AffineShapes.{plans, tree_at}
use Rattle.control_flow.specs.Transitions.{transition_in}
use Rattle.backward_sweeps.proofs.Passing.{action_read, both_carried, plans_each}
use Rattle.part_trees.specs.Local.{IsLocal}
use Rattle.part_trees.proofs.labelling.locals.Goals as goal

pub loop-label-preserved : goal.loop-label-preserved
loop-label-preserved c =
    let transitions = c.args.transitions.now in
    let items = c.loop-label.trees.items in
    let tree = c.in_ok-tree.tree in
    let l = c.loop-label.label in
    let now = c.loop-label.invariant.0 in
    let some = c.loop-label-test.true in
    let end = c.loop-label.auto.label-end in
    let P : ℕ → Plan AffineRank → Type 0 = λ label plan. IsLocal c.args.formula.now (transition_in transitions label) (tree_at (plans c.args.first.now) label) (tree_at (plans c.args.second.now) label) plan in
    let here : P (length items) (plan_of tree) =
    subst (λ k. P k (plan_of tree)) (sym now)
    (both_carried (λ this that. IsLocal c.args.formula.now (transition_in transitions l) this that (plan_of tree)) (plan_of c.tree_at-this.result.now)
    (tree_at (plans c.args.first.now) l) (plan_of c.tree_at-that.result.now) (tree_at (plans c.args.second.now) l) c.tree_at-this.ensures c.tree_at-that.ensures
    (subst (λ transition. IsLocal c.args.formula.now transition (plan_of c.tree_at-this.result.now) (plan_of c.tree_at-that.result.now) (plan_of tree))
    (action_read transitions l c.index-transitions-label.result c.index-transitions-label.is (omega (arith, some, end))) c.in_ok-tree.ensures)) in
    let each : (label : ℕ) → label < suc (length items) → P label (tree_at (plans c.push.new.self.items) label) =
    λ label below. subst (λ list. P label (tree_at (plans list) label)) (sym c.in_ok-push.ensures.items)
    (plans_each P items tree c.loop-label.invariant.1 here label below) in
    let long = ap length c.in_ok-push.ensures.items ∙ length-append items (tree ∷ []) in
    (omega (arith, long, now), λ label below. each label (omega (arith, long, below)))
