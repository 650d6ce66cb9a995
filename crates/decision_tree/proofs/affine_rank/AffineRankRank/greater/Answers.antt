use Rattle.std.proofs.Common.{arith}
use Rattle.std.proofs.lemmas.Grind.{common_steps}
use Rattle.decision_tree.proofs.affine_rank.AffineRankRank.greater.Goals as goal

pub returns-in_err-excess-clause-exact : goal.returns-in_err-excess-clause-exact
returns-in_err-excess-clause-exact c = grind (arith, common_steps)

pub returns-clause-exact : goal.returns-clause-exact
returns-clause-exact c = grind (arith, common_steps)
