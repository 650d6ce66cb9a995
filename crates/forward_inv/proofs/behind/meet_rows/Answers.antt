use Rattle.std.proofs.Common.{arith}
use Rattle.std.proofs.lemmas.Grind.{elements}
use Rattle.forward_inv.proofs.behind.meet_rows.Goals as goal

pub meet_row-requires : goal.meet_row-requires
meet_row-requires g c = grind (arith, elements)

pub returns : goal.returns
returns g c = grind (arith, elements)
