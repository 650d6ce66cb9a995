use Rattle.std.proofs.Common.{arith}
use Rattle.std.proofs.lemmas.Grind.{common_steps}
use Rattle.derivation.proofs.words.after.Goals as goal

pub returns-in-Symbol-clause-read : goal.returns-in-Symbol-clause-read
returns-in-Symbol-clause-read c = grind (arith, common_steps)
