use Rattle.std.proofs.lemmas.Grind.{common_steps}
use Rattle.std.proofs.Common.{arith}
use Rattle.backward_sweeps.proofs.pass.begun.Goals as goal

pub returns-in_err-push-clause-labels : goal.returns-in_err-push-clause-labels
returns-in_err-push-clause-labels c = grind (arith, common_steps)

pub returns-in_err-push-clause-given : goal.returns-in_err-push-clause-given
returns-in_err-push-clause-given c = grind (arith, common_steps)

pub loop-label-preserved : goal.loop-label-preserved
loop-label-preserved c = grind (arith, common_steps)
