use Rattle.std.proofs.Common.{Err, ap, ◌∙◌}
use Rattle.backward_transfer.specs.AffineShapes.{plans, tree_at}
use Rattle.control_flow.specs.Transitions.{first_target, second_target}
use Rattle.backward_sweeps.specs.Before.{BeforeFits, IsBeforeSmall, before}
use Rattle.backward_sweeps.proofs.Passing.{or_top}
use Rattle.part_trees.proofs.stepping.step.Goals as goal

pub returns-in-Err : goal.returns-in-Err
returns-in-Err c =
    let transition = c.args.transition.now in
    let this = tree_at (plans c.args.behind.now) (first_target transition) in
    let that = tree_at (plans c.args.behind.now) (second_target transition) in
    or_top (before c.args.all transition this that) (BeforeFits c.args.all transition this that) (IsBeforeSmall c.args.all transition this that) c.in-Err.fault
    c.given_up.result c.given_up.ensures.full c.given_up.ensures.wide c.given_up.ensures.memory
    (λ count is. c.moved_back.ensures.full count (c.in-Err.is ∙ ap Err is)) (λ w is. c.moved_back.ensures.wide w (c.in-Err.is ∙ ap Err is))
    (λ w is. c.moved_back.ensures.operands w (c.in-Err.is ∙ ap Err is))
