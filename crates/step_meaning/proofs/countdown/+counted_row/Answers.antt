use Rattle.std.proofs.Common.{arith}
use Rattle.std.proofs.lemmas.Grind.{common_steps}
use Rattle.step_meaning.proofs.countdown.+counted_row.Goals as goal

pub returns-in-Some : goal.returns-in-Some
returns-in-Some t c = grind (arith, common_steps)
