use Rattle.std.proofs.Common.{◌≡◌, ℕ, length, arith, rules}
use Rattle.std.proofs.lemmas.Grind.{common_steps}
use Rattle.interval_dom.specs.Intervals.{IsHull}
use Rattle.interval_dom.specs.declared.interval.Interval.{Interval}
use Rattle.interval_dom.specs.Laws.BoxLaws.{interval_at}
use Rattle.interval_dom.proofs.BoxLaws.{empty_within, hull_least, places_more, within_places}
use Rattle.interval_dom.proofs.boxes.Boxes.hull.Goals as goal

pub returns-then-has_none-clause-own : goal.returns-then-has_none-clause-own
returns-then-has_none-clause-own c =
    let long : length c.args.self.now.intervals ≡ 16 = search rules in
    empty_within _ _ long (cc)

pub returns-then-has_none-2-clause-others : goal.returns-then-has_none-2-clause-others
returns-then-has_none-2-clause-others c =
    let long : length c.args.other.now.intervals ≡ 16 = search rules in
    empty_within _ _ long (cc)

pub loop-place-preserved : goal.loop-place-preserved
loop-place-preserved c =
    let P : ℕ → Interval → Type 0 = λ i range. IsHull (interval_at c.args.self.now i) (interval_at c.args.other.now i) range in
    places_more P _ _ _ (omega arith) c.loop-place.invariant c.hull.ensures

pub returns-clause-own : goal.returns-clause-own
returns-clause-own c =
    let P : ℕ → Interval → Type 0 = λ i range. IsHull (interval_at c.args.self.now i) (interval_at c.args.other.now i) range in
    let all : c.loop-place.place ≡ 16 = omega arith in
    within_places c.args.self.now c.loop-place.hull P (λ i range wide. wide.own) (rw all at c.loop-place.invariant)

pub returns-clause-others : goal.returns-clause-others
returns-clause-others c =
    let P : ℕ → Interval → Type 0 = λ i range. IsHull (interval_at c.args.self.now i) (interval_at c.args.other.now i) range in
    let all : c.loop-place.place ≡ 16 = omega arith in
    within_places c.args.other.now c.loop-place.hull P (λ i range wide. wide.others) (rw all at c.loop-place.invariant)

pub returns-clause-least : goal.returns-clause-least
returns-clause-least c =
    let long : length c.args.self.now.intervals ≡ 16 = search rules in
    let also : length c.args.other.now.intervals ≡ 16 = search rules in
    let all : c.loop-place.place ≡ 16 = omega arith in
    hull_least c.args.self.now c.args.other.now c.loop-place.hull long also (cc) (cc) (rw all at c.loop-place.invariant)

pub returns-then-has_none-clause-others : goal.returns-then-has_none-clause-others
returns-then-has_none-clause-others c = grind (arith, common_steps)

pub returns-then-has_none-clause-empty : goal.returns-then-has_none-clause-empty
returns-then-has_none-clause-empty c = grind (arith, common_steps)
