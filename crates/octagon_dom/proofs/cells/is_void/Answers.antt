use Rattle.std.proofs.Common.{◌≡◌, arith, sym}
use Rattle.octagon_dom.proofs.Voids.{void_found, void_nowhere}
use Rattle.octagon_dom.proofs.cells.is_void.Goals as goal

pub returns-then-is_void_at : goal.returns-then-is_void_at
returns-then-is_void_at c =
    let found = c.is_void_at.ensures.some c.if-is_void_at.true in
    let earlier = found.1 in
    sym (void_found c.args.cells.now c.loop-i.i found.0 (omega arith) (omega arith) found.2)

pub returns : goal.returns
returns c =
    let all : c.loop-i.i ≡ 32 = omega arith in
    sym (void_nowhere c.args.cells.now (λ i j low later. c.loop-i.invariant i j (omega arith) later) 1024 (omega arith))
