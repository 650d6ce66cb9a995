use Rattle.std.proofs.Common.{◌∙◌, refl, arith}
use Rattle.std.proofs.lemmas.Grind.{common_steps}
use Rattle.linear_cons.specs.Rows.{complement}
use Rattle.decision_tree.specs.Plans.{IsEnd, plan_of}
use Rattle.tree_unify.proofs.Building.{handed_on, leaf_grafted, stopped_at, stopped_in}
use Rattle.tree_unify.proofs.Meeting.{node_size}
use Rattle.tree_unify.proofs.joining.+graft.Goals as goal

pub returns-in-Bottom : goal.returns-in-Bottom
returns-in-Bottom g t c = rw c.in-Bottom.is (rw c.in-Bottom.is at c.graft_leaf.ensures)

pub returns-in-Top : goal.returns-in-Top
returns-in-Top g t c = rw c.in-Top.is (rw c.in-Top.is at c.graft_leaf-in-Top.ensures)

pub returns-in-Leaf : goal.returns-in-Leaf
returns-in-Leaf g t c = rw c.in-Leaf.is (rw c.in-Leaf.is at c.graft_leaf-in-Leaf.ensures)

pub returns-in-Err-graft : goal.returns-in-Err-graft
returns-in-Err-graft g t c =
    let way = c.in_default.ensures.turned c.args.walk.now.trail c.in-Node.row (c.in_ok-this-in-Node.ensures.trail ∙ c.in_ok-down-in-Node.ensures.down) in
    let part = rw (way, c.deref-in-Node-4.ensures) at c.in-Err-graft.ensures in
    rw c.in-Node.is (stopped_in _ _ part (node_size g.R.PartialEq.eq g.met.R.Rank.equal_law _ _ _).1 (λ fits. fits.2) (λ room. room))

pub returns-in-Err-turn : goal.returns-in-Err-turn
returns-in-Err-turn g t c =
    let at = c.in_ok-this-in-Node.ensures.trail ∙ c.in_ok-down-in-Node.ensures.down in
    rw c.in-Node.is (stopped_at _ _ c.in-Err-turn.ensures.full (λ w is fits. c.in-Err-turn.ensures.wide w is c.args.walk.now.trail c.in-Node.row at fits.1) c.in-Err-turn.ensures.operands)

pub returns-in_err-other-in-Node-2 : goal.returns-in_err-other-in-Node-2
returns-in_err-other-in-Node-2 g t c =
    let part = rw (c.in_ok-down_no-in-Node-2.ensures.down, c.deref-then-is_smaller.ensures) at c.in_err-other-in-Node-2.ensures in
    rw c.in-Node.is (handed_on _ _ c.from_residual-in_err-other-in-Node-2.result c.from_residual-in_err-other-in-Node-2.ensures.0 (stopped_in _ _ part (node_size g.R.PartialEq.eq g.met.R.Rank.equal_law _ _ _).1 (λ fits. fits.2) (λ room. room)))

-- ---- where the yes side is a leaf

pub returns-in_err-other-in-Node : goal.returns-in_err-other-in-Node
returns-in_err-other-in-Node g t c =
    let part = rw (c.in_ok-down_no-in-Node.ensures.down, c.deref-then-is_leaf.ensures) at c.in_err-other-in-Node.ensures in
    rw c.in-Node.is (handed_on _ _ c.from_residual-in_err-other-in-Node.result c.from_residual-in_err-other-in-Node.ensures.0 (stopped_in _ _ part (node_size g.R.PartialEq.eq g.met.R.Rank.equal_law _ _ _).1 (λ fits. fits.2) (λ room. room)))

pub returns-then-is_leaf : goal.returns-then-is_leaf
returns-then-is_leaf g t c =
    let back = c.up.ensures.shortened c.args.walk.now.trail (complement c.in-Node.row) (c.in_ok-other-in-Node.ensures.trail ∙ c.in_ok-down_no-in-Node.ensures.down) in
    let ends : IsEnd (plan_of c.in-Node.yes.value) = rw (← c.deref.ensures) (c.is_leaf.ensures.0 c.if-is_leaf.true) in
    let other = rw (c.in_ok-down_no-in-Node.ensures.down, c.deref-then-is_leaf.ensures) at c.in_ok-other-in-Node.ensures in
    let made = rw (c.deref-then-is_leaf-2.ensures, back) at c.graft_beside.ensures in
    rw c.in-Node.is (leaf_grafted g.R.PartialEq.eq g.met.R.Rank.equal_law g.R.Rank c.args.join (plan_of c.args.second.now) c.args.walk.now.trail c.in-Node.row (plan_of c.in-Node.yes.value) (plan_of c.in-Node.no.value) _ ends c.in_ok-down_no-in-Node.ensures.fits other made refl)

pub graft_beside-requires : goal.graft_beside-requires
graft_beside-requires g c = grind (arith, common_steps)
