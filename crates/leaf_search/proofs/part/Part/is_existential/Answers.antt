use Rattle.std.proofs.Common.{arith}
use Rattle.std.proofs.lemmas.Grind.{elements}
use Rattle.leaf_search.proofs.part.Part.is_existential.Goals as goal

pub returns-in-Next : goal.returns-in-Next
returns-in-Next c = grind (arith, elements)
