use Rattle.std.proofs.Common.{arith}
use Rattle.std.proofs.lemmas.Grind.{common_steps}
use Rattle.step_meaning.proofs.count.added_by.Goals as goal

pub returns-in-Sub-Some : goal.returns-in-Sub-Some
returns-in-Sub-Some c = grind (arith, common_steps)
