use Rattle.std.proofs.Common.{arith}
use Rattle.std.proofs.lemmas.Grind.{common_steps}
use Rattle.leaf_search.proofs.part.Part.of.Goals as goal

pub returns-in-Weak : goal.returns-in-Weak
returns-in-Weak c = grind (arith, common_steps)
