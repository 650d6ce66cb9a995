use Rattle.std.proofs.Common.{◌∙◌, arith}
use Rattle.call_inline.proofs.Freeing.{place_same}
use Rattle.call_inline.proofs.layout.has_free.Goals as goal

pub loop-place-preserved : goal.loop-place-preserved
loop-place-preserved c = place_same c.args.free.now c.loop-place.place-index (omega arith) c.if-place.false ∙ c.loop-place.invariant
