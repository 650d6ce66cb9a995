use Rattle.std.proofs.Common.{arith}
use Rattle.std.proofs.lemmas.Grind.{common_steps}
use Rattle.linear_forms.proofs.conjunction.add_compared.Goals as goal

pub returns-in-Less : goal.returns-in-Less
returns-in-Less c = grind (arith, common_steps)
