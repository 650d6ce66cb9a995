use Rattle.std.proofs.Common.{arith}
use Rattle.std.proofs.lemmas.Grind.{common_steps}
use Rattle.source_parse.proofs.front.of_syntax.Goals as goal

pub returns-in-Nesting-clause-inside : goal.returns-in-Nesting-clause-inside
returns-in-Nesting-clause-inside c = grind (arith, common_steps)
