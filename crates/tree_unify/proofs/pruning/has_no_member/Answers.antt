use Rattle.std.proofs.Common.{arith}
use Rattle.std.proofs.lemmas.Grind.{common_steps}
use Rattle.tree_unify.proofs.pruning.has_no_member.Goals as goal

pub returns : goal.returns
returns g c = grind (arith, common_steps)
