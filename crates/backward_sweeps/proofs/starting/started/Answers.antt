use Rattle.std.proofs.lemmas.Grind.{common_steps}
use Rattle.std.proofs.Common.{arith}
use Rattle.backward_sweeps.proofs.starting.started.Goals as goal

pub loop-label-init : goal.loop-label-init
loop-label-init c = grind (arith, common_steps)

pub returns-in_err-push-clause-labels : goal.returns-in_err-push-clause-labels
returns-in_err-push-clause-labels c = grind (arith, common_steps)

pub returns-in_err-push-clause-ends : goal.returns-in_err-push-clause-ends
returns-in_err-push-clause-ends c = grind (arith, common_steps)

pub loop-label-preserved : goal.loop-label-preserved
loop-label-preserved c = grind (arith, common_steps)
