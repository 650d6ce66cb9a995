use Rattle.std.proofs.Common.{◌≡◌, ◌+◌, ◌*◌, ◌/◌, ◌%◌, arith, refl}
use Rattle.num_domain.specs.Ends.{some_end}
use Rattle.octagon_dom.specs.Cells.{shifted}
use Rattle.octagon_dom.proofs.Writing.{all_written, written_more}
use Rattle.octagon_dom.proofs.moving.shift_each.Goals as goal

pub loop-k-preserved : goal.loop-k-preserved
loop-k-preserved c =
    let k = c.loop-k.k in
    let own = c.loop-k.invariant.later k (omega arith) in
    let here : 32 * (k / 32) + k % 32 ≡ k = omega arith in
    let is : some_end c.sum.result ≡ shifted c.args.cells.now c.args.place (some_end c.args.up) (some_end c.args.down) (k / 32) (k % 32) =
    rw (c.sum.ensures, c.sum-risen.ensures, c.rise.ensures, c.rise-in-loop-k.ensures, c.turned.ensures, own, here) refl in
    written_more k 1024 _ c.args.cells.now c.loop-k.cells c.sum.result (omega arith) c.loop-k.invariant is

pub returns : goal.returns
returns c =
    let all : c.loop-k.k ≡ 1024 = omega arith in
    all_written (shifted c.args.cells.now c.args.place (some_end c.args.up) (some_end c.args.down)) c.args.cells.now c.loop-k.cells
    (rw all at c.loop-k.invariant)
