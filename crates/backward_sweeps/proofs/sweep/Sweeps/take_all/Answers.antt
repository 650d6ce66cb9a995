use Rattle.std.proofs.lemmas.Grind.{common_steps}
use Rattle.std.proofs.Common.{arith}
use Rattle.backward_sweeps.proofs.sweep.Sweeps.take_all.Goals as goal

pub loop-label-preserved : goal.loop-label-preserved
loop-label-preserved g c = grind (arith, common_steps)

pub returns-clause-ends : goal.returns-clause-ends
returns-clause-ends g c = grind (arith, common_steps)
