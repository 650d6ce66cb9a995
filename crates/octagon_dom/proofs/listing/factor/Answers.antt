use Rattle.std.proofs.lemmas.Grind.{common_steps}
use Rattle.std.proofs.Common.{arith}
use Rattle.octagon_dom.proofs.listing.factor.Goals as goal

pub returns-then-i-j : goal.returns-then-i-j
returns-then-i-j c = grind (arith, common_steps)
