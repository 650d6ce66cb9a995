use Rattle.std.proofs.Common.{arith}
use Rattle.std.proofs.lemmas.Grind.{elements}
use Rattle.backward_sweeps.proofs.pass.has_head.Goals as goal

pub returns : goal.returns
returns c = grind (arith, elements)
