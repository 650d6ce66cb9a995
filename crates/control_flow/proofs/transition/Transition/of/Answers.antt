use Rattle.std.proofs.Common.{arith}
use Rattle.std.proofs.lemmas.Grind.{common_steps}
use Rattle.control_flow.proofs.transition.Transition.of.Goals as goal

pub returns-in_ok-spread-in-Test-2 : goal.returns-in_ok-spread-in-Test-2
returns-in_ok-spread-in-Test-2 c = grind (arith, common_steps)
