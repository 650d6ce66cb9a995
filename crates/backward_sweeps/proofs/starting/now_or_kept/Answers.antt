use Rattle.std.proofs.Common.{◌≤◌, Err, IfOk, ap, ◌∙◌, arith}
use Rattle.decision_tree.specs.Plans.{plan_of, size_of}
use Rattle.decision_tree.specs.declared.reason.Pick.TheVariants.{All as EveryState}
use Rattle.decision_tree.specs.declared.reason.Why.TheVariants.{Step}
use Rattle.backward_sweeps.specs.Claiming.{claimed}
use Rattle.backward_sweeps.specs.Remaking.{EitherFits, IsOrTop, either_of, goal_at, keep_at, parts_of}
use Rattle.backward_sweeps.proofs.Passing.{both_carried, or_top}
use Rattle.backward_sweeps.proofs.starting.now_or_kept.Goals as goal

pub returns : goal.returns
returns c =
    let parts = parts_of c.args.operands.now in
    let now = plan_of c.tree_at-2.result.now in
    let keep = plan_of c.in_ok-keep.keep in
    both_carried
    (λ this that. IfOk c.given_up.result (λ tree. IsOrTop (either_of this that) (EitherFits this that) (size_of (either_of this that) ≤ 65536) (plan_of tree)))
    now (goal_at parts c.args.label) keep (claimed (Step EveryState) (keep_at parts c.args.label)) c.tree_at-2.ensures
    (c.in_ok-keep.ensures ∙ ap (claimed (Step EveryState)) c.tree_at.ensures)
    (or_top (either_of now keep) (EitherFits now keep) (size_of (either_of now keep) ≤ 65536) c.in-Err.fault c.given_up.result
    c.given_up.ensures.full c.given_up.ensures.wide c.given_up.ensures.memory
    (λ count is small. let large = (c.either.ensures.full count (c.in-Err.is ∙ ap Err is)).1 in absurd (omega (arith, large, small)))
    (λ w is. c.either.ensures.wide w (c.in-Err.is ∙ ap Err is)) (λ w is. c.either.ensures.operands w (c.in-Err.is ∙ ap Err is)))
