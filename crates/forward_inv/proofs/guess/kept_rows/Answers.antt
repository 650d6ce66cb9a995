use Rattle.std.proofs.Common.{arith}
use Rattle.std.proofs.lemmas.Grind.{elements}
use Rattle.forward_inv.proofs.guess.kept_rows.Goals as goal

pub returns-in_default : goal.returns-in_default
returns-in_default g c = grind (arith, elements)

pub returns-in_default-get : goal.returns-in_default-get
returns-in_default-get g c = grind (arith, elements)

pub returns : goal.returns
returns g c = grind (arith, elements)
