use Rattle.forward_inv.specs.Behind.{AreUnentered}
use Rattle.forward_inv.proofs.behind.edges_into.Given as goal

abbrev pub invariant-loop : goal.invariant-loop
invariant-loop l = AreUnentered l.counter l.all.items
