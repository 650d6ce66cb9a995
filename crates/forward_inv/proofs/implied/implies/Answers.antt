use Rattle.std.proofs.Common.{subst}
use Rattle.std.specs.Bool.{IsTrue}
use Rattle.forward_inv.proofs.Flowing.{implied}
use Rattle.forward_inv.proofs.implied.implies.Goals as goal

pub returns : goal.returns
returns g c truth =
    implied (g.D.NumDomain.has c.args.set.now) (g.D.NumDomain.has c.in_ok-rest.rest) (g.D.NumDomain.has c.meet_row.new.self) c.args.row.now c.in-Ok.complement
    c.in-Ok.ensures.complement c.in_ok-rest.ensures c.in_ok-meet_row.ensures.keeps
    (λ store member. g.met.D.NumDomain.empty_law c.meet_row.new.self store (subst IsTrue c.is_empty.ensures truth) member)
