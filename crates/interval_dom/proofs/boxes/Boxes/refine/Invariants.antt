use Rattle.interval_dom.proofs.BoxLaws.{RefinedBelow}
use Rattle.interval_dom.proofs.boxes.Boxes.refine.Given as goal

abbrev pub invariant-loop-place : goal.invariant-loop-place
invariant-loop-place l = RefinedBelow l.place l.fn.self l.row l.self
