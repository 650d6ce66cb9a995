use Rattle.std.proofs.Common.{take}
use Rattle.forward_inv.specs.Sets.{IsMemberOf, KeepsMeetingOne}
use Rattle.forward_inv.proofs.meet.meet_some.Given as goal

abbrev pub invariant-loop-rows : goal.invariant-loop-rows
invariant-loop-rows g l = KeepsMeetingOne (take l.rows-index l.conjunctions) (g.D.NumDomain.has l.set) (IsMemberOf g.D.NumDomain.has l.all)
