use Rattle.std.proofs.Common.{arith}
use Rattle.forward_inv.specs.Sets.{kept_at}
use Rattle.forward_inv.proofs.Holding.{kept_edge}
use Rattle.forward_inv.proofs.keeping.is_kept.Goals as goal

pub returns : goal.returns
returns g c truth =
    rw c.in-Some.is (kept_edge g.D.NumDomain.has (g.D.NumDomain.told_bounds c.args.set.now) c.args.transition.now
    (kept_at g.D.NumDomain.told_rows c.args.guesses.now c.args.marks.now) c.args.sets.now c.in-Some.edge c.args.set.now c.in_ok-moved.moved
    c.in_ok-rows.rows.items c.requires.holds (omega arith) c.in_ok-rows.ensures c.in_ok-moved.ensures (rw c.deref.ensures.value at (c.in_ok-kept.ensures truth)))
