use Rattle.octagon_dom.proofs.Exchanging.{FlippedBelow}
use Rattle.octagon_dom.proofs.moving.flip.Given as goal

abbrev pub invariant-loop-k : goal.invariant-loop-k
invariant-loop-k l = FlippedBelow l.k l.place l.fn.cells l.cells
