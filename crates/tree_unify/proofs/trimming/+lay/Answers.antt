use Rattle.std.proofs.Common.{sym, ◌∙◌}
use Rattle.tree_unify.proofs.Building.{handed_on, stopped_at, stopped_in}
use Rattle.tree_unify.proofs.Meeting.{node_size}
use Rattle.tree_unify.proofs.trimming.+lay.Goals as goal

pub returns-in-Err-lay : goal.returns-in-Err-lay
returns-in-Err-lay g t c =
    let way = c.in_default-turn.ensures.turned c.args.walk.now.trail c.in-Node.row (c.in_ok-first-in-None.ensures.trail ∙ c.in_ok-down-in-None.ensures.down) in
    let part = rw (way, c.deref-in-None-3.ensures) at c.in-Err-lay.ensures in
    rw (c.in-Node.is, sym c.in-None.ensures) (stopped_in _ _ part (node_size g.R.PartialEq.eq g.met.R.Rank.equal_law _ _ _).1 (λ fits. fits.2) (λ room. room))

pub returns-in-Err : goal.returns-in-Err
returns-in-Err g t c =
    let at = c.in_ok-first-in-None.ensures.trail ∙ c.in_ok-down-in-None.ensures.down in
    rw (c.in-Node.is, sym c.in-None.ensures) (stopped_at _ _ c.in-Err.ensures.full (λ w is fits. c.in-Err.ensures.wide w is c.args.walk.now.trail c.in-Node.row at fits.1) c.in-Err.ensures.operands)

pub returns-in_err-other-in-None : goal.returns-in_err-other-in-None
returns-in_err-other-in-None g t c =
    let part = rw (c.in_ok-down_no-in-None.ensures.down, c.deref-then-is_leaf.ensures) at c.in_err-other-in-None.ensures in
    rw (c.in-Node.is, sym c.in-None.ensures) (handed_on _ _ c.from_residual-in_err-other-in-None.result c.from_residual-in_err-other-in-None.ensures.0 (stopped_in _ _ part (node_size g.R.PartialEq.eq g.met.R.Rank.equal_law _ _ _).1 (λ fits. fits.2) (λ room. room)))
