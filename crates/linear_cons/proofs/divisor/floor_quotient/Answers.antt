use Rattle.std.proofs.Common.{arith}
use Rattle.std.proofs.lemmas.Grind.{common_steps}
use Rattle.linear_cons.proofs.divisor.floor_quotient.Goals as goal

pub returns-then-number-lt0-clause-at_most : goal.returns-then-number-lt0-clause-at_most
returns-then-number-lt0-clause-at_most c = grind (arith, common_steps)
