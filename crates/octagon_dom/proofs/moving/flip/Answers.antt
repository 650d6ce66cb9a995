use Rattle.std.proofs.Common.{◌≡◌, arith}
use Rattle.octagon_dom.proofs.Exchanging.{flipped_all, flipped_more, flipped_none}
use Rattle.octagon_dom.proofs.moving.flip.Goals as goal

pub loop-k-init : goal.loop-k-init
loop-k-init c = flipped_none c.args.place c.args.cells.now c.requires.long

pub loop-k-preserved : goal.loop-k-preserved
loop-k-preserved c =
    flipped_more c.loop-k.k c.args.place c.args.cells.now c.loop-k.cells c.exchange.new.cells
    (omega arith) c.loop-k.invariant c.exchange.ensures

pub returns : goal.returns
returns c =
    let all : c.loop-k.k ≡ 1024 = omega arith in
    flipped_all c.args.place c.args.cells.now c.loop-k.cells (rw all at c.loop-k.invariant)
