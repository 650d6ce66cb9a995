use Rattle.std.proofs.Common.{arith}
use Rattle.std.proofs.lemmas.Grind.{common_steps}
use Rattle.linear_forms.proofs.linear.+linearise.Goals as goal

pub returns-in-Range : goal.returns-in-Range
returns-in-Range t c = grind (arith, common_steps)
