use Rattle.decision_tree.specs.Plans.{plan_of}
use Rattle.backward_sweeps.proofs.Staying.{step_stays}
use Rattle.backward_sweeps.proofs.remaking.stays.Goals as goal

pub returns-in-Leaf : goal.returns-in-Leaf
returns-in-Leaf c none whole = rw (c.in-Bottom.is, c.in-Leaf.is) (step_stays c.in-Leaf.why c.in-Leaf.rank (plan_of c.args.step.now) (c.has_no_cause.ensures none) whole)
