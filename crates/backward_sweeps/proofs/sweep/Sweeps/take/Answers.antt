use Rattle.std.proofs.Common.{◌≡◌, false, sym, subst, ◌∙◌}
use Rattle.decision_tree.specs.Plans.{plan_of}
use Rattle.backward_transfer.specs.AffineShapes.{plans}
use Rattle.backward_transfer.proofs.Putting.{plans_set}
use Rattle.control_flow.specs.Transitions.{is_idle}
use Rattle.backward_sweeps.specs.Remaking.{AreKept}
use Rattle.backward_sweeps.proofs.Passing.{action_read, put_kept}
use Rattle.backward_sweeps.proofs.sweep.Sweeps.take.Goals as goal

pub returns-clause-ends : goal.returns-clause-ends
returns-clause-ends g c =
    let transitions = c.args.self.now.transitions.now in
    let label = c.args.label in
    subst (λ t. AreKept is_idle transitions (plans c.args.trees.now) t) (sym (plans_set c.args.trees.now label c.in_ok-made.made))
    (put_kept is_idle transitions (plans c.args.trees.now) label (plan_of c.in_ok-made.made)
    (subst (λ a. is_idle a ≡ false) (sym c.index-self-label.is ∙ action_read transitions label c.index-self-label.result c.index-self-label.is c.requires.label)
    (sym c.is_idle.ensures ∙ c.if-is_idle.false)))
