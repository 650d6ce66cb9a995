use Rattle.std.proofs.Common.{◌≤◌, Err, IfOk, ap, ◌∙◌, arith}
use Rattle.decision_tree.specs.Plans.{plan_of, size_of}
use Rattle.decision_tree.specs.declared.reason.Why.TheVariants.{Left, Right}
use Rattle.backward_sweeps.specs.Claiming.{claimed}
use Rattle.backward_sweeps.specs.Remaking.{EitherFits, IsOrTop, either_of}
use Rattle.backward_sweeps.proofs.Passing.{both_carried, or_top}
use Rattle.part_trees.proofs.joining.disjunction.Goals as goal

pub returns : goal.returns
returns c =
    let first = plan_of c.in_ok-left.left in
    let second = plan_of c.in_ok-right.right in
    both_carried (λ this that. IfOk c.given_up.result (λ tree. IsOrTop (either_of this that) (EitherFits this that) (size_of (either_of this that) ≤ 65536) (plan_of tree)))
    first (claimed Left (plan_of c.args.first.now)) second (claimed Right (plan_of c.args.second.now)) c.in_ok-left.ensures c.in_ok-right.ensures
    (or_top (either_of first second) (EitherFits first second) (size_of (either_of first second) ≤ 65536) c.in-Err.fault c.given_up.result
    c.given_up.ensures.full c.given_up.ensures.wide c.given_up.ensures.memory
    (λ count is small. let large = (c.either.ensures.full count (c.in-Err.is ∙ ap Err is)).1 in absurd (omega (arith, large, small)))
    (λ w is. c.either.ensures.wide w (c.in-Err.is ∙ ap Err is)) (λ w is. c.either.ensures.operands w (c.in-Err.is ∙ ap Err is)))
