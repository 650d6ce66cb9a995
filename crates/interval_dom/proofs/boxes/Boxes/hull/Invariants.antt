use Rattle.interval_dom.specs.Intervals.{IsHull}
use Rattle.interval_dom.proofs.BoxLaws.{PlacesBelow}
use Rattle.interval_dom.specs.Laws.BoxLaws.{interval_at}
use Rattle.interval_dom.proofs.boxes.Boxes.hull.Given as goal

abbrev pub invariant-loop-place : goal.invariant-loop-place
invariant-loop-place l = PlacesBelow (λ i range. IsHull (interval_at l.self i) (interval_at l.other i) range) l.place l.hull
