use Rattle.std.proofs.Common.{All, take}
use Rattle.num_domain.specs.Domain.{AllMeet}
use Rattle.forward_inv.proofs.implied.implies_all.Given as goal

abbrev pub invariant-loop-row : goal.invariant-loop-row
invariant-loop-row g l = All (λ row. AllMeet row (g.D.NumDomain.has l.members)) (take l.row-index l.rows)
