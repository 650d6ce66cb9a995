use Rattle.std.proofs.Common.{arith}
use Rattle.std.proofs.lemmas.Grind.{common_steps}
use Rattle.elaboration.proofs.statement.need_loop.Goals as goal

pub returns-else-not-in_loop : goal.returns-else-not-in_loop
returns-else-not-in_loop c = grind (arith, common_steps)
