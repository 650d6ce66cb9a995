use Rattle.std.proofs.Common.{arith}
use Rattle.std.proofs.lemmas.Grind.{common_steps}
use Rattle.backward_transfer.proofs.choosing.put_value.Goals as goal

pub returns-in-Always : goal.returns-in-Always
returns-in-Always g c = grind (arith, common_steps)

pub returns-in-Never : goal.returns-in-Never
returns-in-Never g c = grind (arith, common_steps)
