use Rattle.std.proofs.Common.{arith}
use Rattle.std.proofs.lemmas.Grind.{common_steps}
use Rattle.ctl_rounds.proofs.inquiry.Inquiry.facts.Goals as goal

pub overflow_cast-variables : goal.overflow_cast-variables
overflow_cast-variables g c = grind (arith, common_steps)
