use Rattle.interval_dom.specs.Intervals.{IsWidened}
use Rattle.interval_dom.proofs.BoxLaws.{PlacesBelow}
use Rattle.interval_dom.specs.Laws.BoxLaws.{interval_at}
use Rattle.interval_dom.proofs.boxes.Boxes.widened.Given as goal

abbrev pub invariant-loop-place : goal.invariant-loop-place
invariant-loop-place l = PlacesBelow (λ i range. IsWidened (interval_at l.self i) (interval_at l.newer i) range) l.place l.wide
