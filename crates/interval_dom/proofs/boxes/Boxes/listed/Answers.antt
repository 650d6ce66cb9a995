use Rattle.std.proofs.Common.{◌≡◌, ◌∙◌, arith, refl, sym}
use Rattle.interval_dom.specs.Boxes.{bounds_of, rows_of}
use Rattle.interval_dom.specs.Laws.BoxLaws.{ends_at}
use Rattle.interval_dom.proofs.LineRows.{rows_below_more, rows_below_none}
use Rattle.interval_dom.proofs.boxes.Boxes.listed.Goals as goal

pub loop-place-init : goal.loop-place-init
loop-place-init c = c.new-rows.ensures.items ∙ sym (rows_below_none (bounds_of c.args.self.now))

pub loop-place-preserved : goal.loop-place-preserved
loop-place-preserved c =
    let place = ends_at c.args.self.now c.loop-place.place in
    rw (rows_below_more, place, c.in_ok-push_upper.ensures, c.in_ok-push_lower.ensures, c.loop-place.invariant) refl

pub returns : goal.returns
unfolding rows_of
returns c =
    let all : c.loop-place.place ≡ 16 = omega arith in
    record { rows = rw all at c.loop-place.invariant }
