use Rattle.std.proofs.Common.{◌≤◌, Err, IfOk, ap, ◌∙◌, arith}
use Rattle.decision_tree.specs.Plans.{plan_of, size_of}
use Rattle.decision_tree.specs.declared.reason.Why.TheVariants.{Both}
use Rattle.backward_sweeps.specs.Claiming.{claimed, reranked}
use Rattle.backward_sweeps.specs.Remaking.{BothFit, IsOrTop, both_of}
use Rattle.backward_sweeps.proofs.Passing.{both_carried, or_top}
use Rattle.part_trees.proofs.joining.conjunction.Goals as goal

pub returns : goal.returns
returns c =
    let first = plan_of c.in_ok-first.first in
    let second = plan_of c.in_ok-second.second in
    both_carried (λ this that. IfOk c.given_up.result (λ tree. IsOrTop (claimed Both (both_of this that)) (BothFit this that) (size_of (both_of this that) ≤ 65536) (plan_of tree)))
    first (reranked (plan_of c.args.first.now)) second (reranked (plan_of c.args.second.now)) c.in_ok-first.ensures c.in_ok-second.ensures
    (or_top (claimed Both (both_of first second)) (BothFit first second) (size_of (both_of first second) ≤ 65536) c.in-Err.fault c.given_up.result
    c.given_up.ensures.full c.given_up.ensures.wide c.given_up.ensures.memory
    (λ count is small. let large = (c.both.ensures.full count (c.in-Err.is ∙ ap Err is)).1 in absurd (omega (arith, large, small)))
    (λ w is. c.both.ensures.wide w (c.in-Err.is ∙ ap Err is)) (λ w is. c.both.ensures.operands w (c.in-Err.is ∙ ap Err is)))
