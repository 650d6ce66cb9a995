use Rattle.std.proofs.Common.{arith}
use Rattle.std.proofs.lemmas.List.Elements.{All-nil}
use Rattle.linear_cons.specs.Rows.{Meets}
use Rattle.report_text.proofs.fitting.ranges.Goals as goal

pub loop-place-init : goal.loop-place-init
loop-place-init c = λ store small. rw c.new-rows.ensures.items (All-nil (Meets store))

pub loop-place-preserved : goal.loop-place-preserved
loop-place-preserved c = λ store small. c.in_ok-add_range.ensures store (small c.loop-place.place (omega arith)) (c.loop-place.invariant store small)
