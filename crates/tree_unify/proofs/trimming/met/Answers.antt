use Rattle.std.proofs.Common.{arith}
use Rattle.std.proofs.lemmas.Grind.{common_steps}
use Rattle.tree_unify.proofs.trimming.met.Goals as goal

pub returns-clause-tree : goal.returns-clause-tree
returns-clause-tree g c = grind (arith, common_steps)
