use Rattle.std.proofs.Common.{arith}
use Rattle.num_domain.specs.Domain.{AllMeet}
use Rattle.forward_inv.proofs.Taking.{all_end, all_more}
use Rattle.forward_inv.proofs.implied.implies_all.Goals as goal

pub loop-row-preserved : goal.loop-row-preserved
loop-row-preserved g c =
    all_more (λ row. AllMeet row (g.D.NumDomain.has c.in-Some.members)) c.args.rows.now c.loop-row.row-index c.row-item.result (omega arith) c.row-item.is
    c.loop-row.invariant (c.in_ok-implies.ensures c.if-not-branch.false)

pub returns : goal.returns
returns g c truth =
    rw c.in-Some.is (all_end (λ row. AllMeet row (g.D.NumDomain.has c.in-Some.members)) c.args.rows.now c.loop-row.row-index (omega arith) c.loop-row.invariant)
