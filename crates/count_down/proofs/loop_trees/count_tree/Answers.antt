use Rattle.std.proofs.Common.{arith}
use Rattle.std.proofs.lemmas.Grind.{common_steps}
use Rattle.count_down.proofs.loop_trees.count_tree.Goals as goal

pub returns-in-Always : goal.returns-in-Always
returns-in-Always c = grind (arith, common_steps)

pub returns-in-Never : goal.returns-in-Never
returns-in-Never c = grind (arith, common_steps)

pub returns-in_ok-elsewhere-in-Row : goal.returns-in_ok-elsewhere-in-Row
returns-in_ok-elsewhere-in-Row c = grind (arith, common_steps)
