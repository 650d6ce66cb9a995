use Rattle.std.proofs.Common.{ap, ◌∙◌}
use Rattle.decision_tree.specs.Plans.{bottom, plan_of}
use Rattle.backward_transfer.specs.AffineShapes.{plans, tree_at}
use Rattle.backward_transfer.proofs.Putting.{plans_set, put_other}
use Rattle.loop_facts.proofs.proposing.put.Goals as goal

pub returns-then-is_head-clause-others : goal.returns-then-is_head-clause-others
returns-then-is_head-clause-others c other apart =
    ap (λ list. tree_at list other) (plans_set c.args.trees.now c.args.label c.args.tree)
    ∙ put_other bottom (plans c.args.trees.now) c.args.label other (plan_of c.args.tree) apart
