use Rattle.std.proofs.Common.{arith}
use Rattle.forward_inv.proofs.Meeting.{one_more}
use Rattle.forward_inv.proofs.meet.meet_some.Goals as goal

pub loop-rows-preserved : goal.loop-rows-preserved
loop-rows-preserved g c =
    one_more g.D.NumDomain.has (g.D.NumDomain.has c.args.set.now) (g.D.NumDomain.has c.in_ok-met.met) (g.D.NumDomain.has c.meet_rows.new.self) c.loop-rows.all c.in_ok-more.more
    c.args.conjunctions.now c.loop-rows.rows-index c.rows-item.result (omega arith) c.rows-item.is c.loop-rows.invariant
    (λ store long member. (c.in_ok-met.ensures store long).0 member)
    (rw c.items.ensures at c.in_ok-meet_rows.ensures.keeps) c.in_ok-more.ensures.own c.in_ok-more.ensures.others
