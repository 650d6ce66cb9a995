use Rattle.std.proofs.Common.{◌≡◌, ◌+◌, ◌*◌, arith, refl}
use Rattle.num_domain.specs.Ends.{some_end}
use Rattle.octagon_dom.specs.Cells.{cell, least_end, sum_end}
use Rattle.octagon_dom.proofs.Writing.{from_more}
use Rattle.octagon_dom.proofs.cells.shorten_line.Goals as goal

pub loop-b-preserved : goal.loop-b-preserved
loop-b-preserved c =
    let b = c.loop-b.b in
    let own = c.loop-b.invariant.later (32 * c.args.a + b) (omega arith) in
    let is : some_end c.least.result ≡ least_end (cell c.args.cells.now (32 * c.args.a + b)) (sum_end (some_end c.args.way) (cell c.args.out.now b)) =
    rw (c.least.ensures, c.sum.ensures, own) refl in
    from_more (32 * c.args.a) b _ c.args.cells.now c.loop-b.cells c.least.result (omega arith) c.loop-b.invariant is
