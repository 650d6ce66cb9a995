use Rattle.std.proofs.Common.{length, arith}
use Rattle.std.proofs.lemmas.Grind.{common_steps}
use Rattle.std.proofs.lemmas.Result.{IfOk-weaker}
use Rattle.decision_tree.specs.Plans.{plan_of}
use Rattle.backward_transfer.specs.AffineShapes.{plans}
use Rattle.part_trees.proofs.Making.{next_of}
use Rattle.part_trees.proofs.stepping.next.Goals as goal

pub returns : goal.returns
returns c =
    IfOk-weaker c.step.result _ _
    (λ tree step. next_of c.args.all (plans c.args.part.now) (plans c.args.behind.now) (length c.args.behind.now) c.requires.reranked (plan_of tree)
    c.args.label c.args.transition.now c.in_default.not-End c.requires.leads step)
    c.step.ensures

pub returns-in-End : goal.returns-in-End
returns-in-End c = grind (arith, common_steps)
