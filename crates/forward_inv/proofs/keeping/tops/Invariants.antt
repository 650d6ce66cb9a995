use Rattle.std.proofs.Common.{◌≡◌, All, length}
use Rattle.num_domain.specs.Domain.{HasEvery}
use Rattle.forward_inv.proofs.keeping.tops.Given as goal

abbrev pub invariant-loop : goal.invariant-loop
invariant-loop g l = (length l.sets.items ≡ l.counter) × All (λ set. HasEvery (g.D.NumDomain.has set)) l.sets.items
