use Rattle.std.proofs.lemmas.Grind.{common_steps}
use Rattle.std.proofs.Common.{arith}
use Rattle.leaf_search.proofs.follow.above_function.Goals as goal

pub returns-in_err-distance : goal.returns-in_err-distance
returns-in_err-distance c = grind (arith, common_steps)
