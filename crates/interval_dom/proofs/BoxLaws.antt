-- Boxes place by place: members, refined and joined intervals, and witnesses at the ends.
use Rattle.std.proofs.Common.{◌≡◌, ◌≢◌, ℕ, ◌+◌, ◌<◌, ◌≤◌, ℤ, pos, ◌+ℤ◌, ◌-ℤ◌, ◌≤ℤ◌, Bool, true, false, eqb, List, length, get_or, set, map}
use Rattle.std.proofs.Common.{Option, None, Some, IsSomeAnd, arith, refl, sym, ◌∙◌, ap, subst, ⊎_elim, inl, inr, below_more}
use Rattle.std.proofs.Common.{get_or-set_same, get_or-set_other, length-set}
use Rattle.std.proofs.lemmas.Int.{ints, by_lt_z}
use Rattle.std.proofs.lemmas.Bool.Decides.{eqb_tells}
use Rattle.std.proofs.lemmas.List.{ext_get_or, length-map, take_all}
use Rattle.std.proofs.lemmas.List.Folds.{list_any_at}
use Rattle.std.specs.List.{list_any}
use Rattle.linear_cons.specs.declared.bounds.Bounds.{Bounds}
use Rattle.linear_cons.specs.declared.bounds.Linear.{Linear}
use Rattle.linear_cons.specs.declared.row.Row.{Row}
use Rattle.linear_cons.specs.Bounds.{IsFrom, IsUpTo, LiesIn, lower_end, upper_end}
use Rattle.linear_cons.specs.Ends.{exactly, greatest_value, least_value}
use Rattle.linear_cons.specs.Functions.{IsConstant, Mentions, MentionsOnly, coefficient, value_at, without}
use Rattle.linear_cons.specs.Numbers.{Fits128, number_at, at_places}
use Rattle.linear_cons.proofs.Forms.{form_apart}
use Rattle.linear_cons.proofs.EndLaws.{constant_end, exactly_covers, from_least, up_to_greatest}
use Rattle.linear_cons.proofs.Places.{length-at_places, number_at_places, number_at-set, number_at-clear}
use Rattle.linear_cons.proofs.RowLaws.{constant_value, row_not_constant}
use Rattle.num_domain.specs.declared.bound.Bound.{Bound}
use Rattle.num_domain.specs.declared.bound.Bound.TheVariants.{Without, At}
use Rattle.num_domain.specs.Domain.{IsStore, KeepsAssigned, KeepsMeeting, Within}
use Rattle.num_domain.specs.Ends.{some_end}
use Rattle.interval_dom.specs.declared.boxes.Boxes.{Boxes}
use Rattle.interval_dom.specs.declared.interval.Interval.{Interval}
use Rattle.interval_dom.specs.Boxes.{Has, IsLeastOf, IsPartFor, IsWidening, KeepsOtherEnds, LiesAt, MeetsAlone, RefinesEnds, SetsEnds, bounds_of}
use Rattle.interval_dom.specs.Boxes.{ends_of, is_empty_box, others_greatest}
use Rattle.interval_dom.specs.Laws.BoxLaws.{empty_none, ends_at, every_number, holds_member, interval_at, member_holds}
use Rattle.interval_dom.specs.Intervals.{Holds, IsHull, IsMetIn, IsRefined, IsWidened, is_void, void_ends}

-- ---- the ends at a place

lower_at : (box : Boxes) (i : ℕ) → lower_end (bounds_of box) i ≡ some_end (interval_at box i).lower
lower_at box i = ap (λ (p : Option ℤ × Option ℤ). p.0) (ends_at box i)

upper_at : (box : Boxes) (i : ℕ) → upper_end (bounds_of box) i ≡ some_end (interval_at box i).upper
upper_at box i = ap (λ (p : Option ℤ × Option ℤ). p.1) (ends_at box i)

-- ---- one interval replaced

-- the intervals are the old ones but at the place
pub record IsSetAt (box : Boxes) (place : ℕ) (range : Interval) (next : Boxes) : Type 0 where
  pub here : interval_at next place ≡ range
  pub others : (i : ℕ) → i ≢ place → interval_at next i ≡ interval_at box i

pub set_at : (box : Boxes) (place : ℕ) (range : Interval) → place < length box.intervals
    → IsSetAt box place range (record { intervals = set box.intervals place range })
set_at box place range low = record {
  here = rw get_or-set_same refl;
  others = λ i apart. rw get_or-set_other refl;
}

-- ---- rows of one variable

-- without its one variable a row is a constant
alone_constant : (row : Row) (place : ℕ) → MentionsOnly place row.affine → IsConstant (without row.affine place)
alone_constant row place alone i h = rw number_at-clear (⊎_elim
    (λ (same : (eqb i place ≡ true) × (i ≡ place)). rw same.0 refl)
    (λ (apart : (eqb i place ≡ false) × (i ≢ place)). rw apart.0 (alone i h apart.1))
    (eqb_tells i place))

-- a row mentions its one variable
alone_mentions : (row : Row) (place : ℕ) → MentionsOnly place row.affine → Mentions place row.affine
alone_mentions row place alone none = row_not_constant row (λ i h. ⊎_elim
    (λ (same : (eqb i place ≡ true) × (i ≡ place)). rw same.1 none)
    (λ (apart : (eqb i place ≡ false) × (i ≢ place)). alone i h apart.1)
    (eqb_tells i place))

-- the other terms of a row of one variable have the constant as their greatest value
alone_known : (row : Row) (bounds : Bounds) (place : ℕ) → Fits128 row.affine.constant → MentionsOnly place row.affine
    → others_greatest row.affine place bounds ≡ Some row.affine.constant
alone_known row bounds place fit alone =
    constant_end (without row.affine place) (upper_end bounds) (lower_end bounds) (alone_constant row place alone) fit

-- ---- refining

-- a coefficient of 0 refines nothing
pub part_without : (row : Row) (bounds : Bounds) (place : ℕ) (range : Interval) → coefficient row.affine place ≡ pos 0
    → IsPartFor row bounds place range range
part_without row bounds place range none = record {
  keeps = λ store lies met holds. holds;
  inside = λ z holds. holds;
  refined = λ rest mentions. absurd (mentions none);
  known = λ alone. absurd (alone_mentions row place alone none);
}

-- nor do other terms without a greatest value
pub part_unknown : (row : Row) (bounds : Bounds) (place : ℕ) (range : Interval) → Fits128 row.affine.constant
    → others_greatest row.affine place bounds ≡ None → IsPartFor row bounds place range range
part_unknown row bounds place range fit unknown = record {
  keeps = λ store lies met holds. holds;
  inside = λ z holds. holds;
  refined = λ rest mentions known. absurd (cc);
  known = λ alone. alone_known row bounds place fit alone;
}

-- their greatest value refines the interval
pub part_refined : (row : Row) (bounds : Bounds) (place : ℕ) (range part : Interval) (most : ℤ) → place < 16 → Fits128 row.affine.constant
    → others_greatest row.affine place bounds ≡ Some most → IsRefined range (coefficient row.affine place) most part
    → IsPartFor row bounds place range part
part_refined row bounds place range part most low fit known refined = record {
  keeps = λ store lies met holds.
      let others = exactly_covers (without row.affine place) store _ refl in
      let at_most : value_at (without row.affine place) store ≤ℤ most =
      rw known at (up_to_greatest (exactly (without row.affine place)) bounds store _ lies others) in
      let split = form_apart row.affine place store (pos 1) low in
      refined.keeps (number_at store place) holds (omega (arith, ints));
  inside = refined.inside;
  refined = λ rest mentions also.
      let same : rest ≡ most = let both : Some rest ≡ Some most = sym also ∙ known in cc in
      subst (IsMetIn part (coefficient row.affine place)) (sym same) refined.meets;
  known = λ alone. alone_known row bounds place fit alone;
}

-- what a row's refinement has come to at the places below n
pub record RefinedBelow (n : ℕ) (old : Boxes) (row : Row) (now : Boxes) : Type 0 where
  pub places : length now.intervals ≡ 16
  pub each : (i : ℕ) → i < n → IsPartFor row (bounds_of old) i (interval_at old i) (interval_at now i)
  pub later : (i : ℕ) → n ≤ i → interval_at now i ≡ interval_at old i

pub refined_none : (box : Boxes) (row : Row) → length box.intervals ≡ 16 → RefinedBelow 0 box row box
refined_none box row long = record {
  places = long;
  each = λ i h. absurd (omega arith);
  later = λ i h. refl;
}

pub refined_more : (n : ℕ) (old : Boxes) (row : Row) (now : Boxes) (part : Interval) → n < 16 → RefinedBelow n old row now
    → IsPartFor row (bounds_of old) n (interval_at now n) part
    → RefinedBelow (n + 1) old row (record { intervals = set now.intervals n part })
refined_more n old row now part low below here =
    let next : Boxes = record { intervals = set now.intervals n part } in
    let placed : IsSetAt now n part next = set_at now n part (omega (arith, below.places)) in
    let range : interval_at now n ≡ interval_at old n = below.later n (omega arith) in
    let own : IsPartFor row (bounds_of old) n (interval_at old n) part = subst (λ r. IsPartFor row (bounds_of old) n r part) range here in
    record {
      places = length-set now.intervals n part ∙ below.places;
      each = below_more _ _
          (λ i h.
          let apart : i ≢ n = omega arith in
          subst (IsPartFor row (bounds_of old) i (interval_at old i)) (sym (placed.others i apart)) (below.each i h))
          (subst (IsPartFor row (bounds_of old) n (interval_at old n)) (sym placed.here) own);
      later = λ i h. let apart : i ≢ n = omega arith in placed.others i apart ∙ below.later i (omega arith);
    }

module _ (old now : Boxes) (row : Row) (all : RefinedBelow 16 old row now) where
  pub refined_keeps : KeepsMeeting row (Has old) (Has now)
  refined_keeps store is has met = holds_member now store (λ i h. (all.each i h).keeps store has met (member_holds old store has i h))

  pub refined_inside : Within (Has now) (Has old)
  refined_inside store is has = holds_member old store (λ i h. (all.each i h).inside (number_at store i) (member_holds now store has i h))

  pub refined_ends : RefinesEnds row (bounds_of old) (bounds_of now)
  refined_ends place rest low mentions known fits z lies =
      (all.each place low).refined rest mentions known fits z (record {
        from = subst (λ e. IsFrom e z) (lower_at now place) lies.0;
        up_to = subst (λ e. IsUpTo e z) (upper_at now place) lies.1;
      })

  -- each member meets a row of one variable
  pub refined_alone : MeetsAlone row (Has now)
  refined_alone place one store is has =
      let known = (all.each place one.inside).known one.alone in
      let lies : LiesAt (bounds_of now) place (number_at store place) = (has.lower place one.inside, has.upper place one.inside) in
      let mentions = alone_mentions row place one.alone in
      let met = refined_ends place row.affine.constant one.inside mentions known (λ unit. one.fits) (number_at store place) lies in
      let rest : value_at (without row.affine place) store ≡ row.affine.constant =
      constant_value (without row.affine place) store (alone_constant row place one.alone) in
      let split = form_apart row.affine place store (pos 1) one.inside in
      omega (arith, ints)

-- ---- intervals made place by place

pub record PlacesBelow (P : ℕ → Interval → Type 0) (n : ℕ) (box : Boxes) : Type 0 where
  pub places : length box.intervals ≡ 16
  pub each : (i : ℕ) → i < n → P i (interval_at box i)

pub places_none : (P : ℕ → Interval → Type 0) (box : Boxes) → length box.intervals ≡ 16 → PlacesBelow P 0 box
places_none P box long = record { places = long; each = λ i h. absurd (omega arith) }

pub places_more : (P : ℕ → Interval → Type 0) (n : ℕ) (box : Boxes) (range : Interval) → n < 16 → PlacesBelow P n box → P n range
    → PlacesBelow P (n + 1) (record { intervals = set box.intervals n range })
places_more P n box range low below here =
    let placed : IsSetAt box n range (record { intervals = set box.intervals n range }) = set_at box n range (omega (
      arith,
      below.places,
    )) in
    record {
      places = length-set box.intervals n range ∙ below.places;
      each = below_more _ _
          (λ i h. let apart : i ≢ n = omega arith in subst (P i) (sym (placed.others i apart)) (below.each i h))
          (subst (P n) (sym placed.here) here);
    }

-- ---- witnesses

-- a number between two ends
inner : Bound ℤ → Bound ℤ → ℤ
inner (At lower) upper = lower
inner Without (At upper) = upper
inner Without Without = pos 0

inner_holds : (lower upper : Bound ℤ) → void_ends lower upper ≡ false → IsFrom (some_end lower) (inner lower upper)
    × IsUpTo (some_end upper) (inner lower upper)
unfolding inner
inner_holds (At lower) (At upper) some = (omega (arith, ints), omega (arith, ints))
inner_holds (At lower) Without some = (omega (arith, ints), tt)
inner_holds Without (At upper) some = (tt, omega (arith, ints))
inner_holds Without Without some = (tt, tt)

pub empty_whole : (box : Boxes) → length box.intervals ≡ 16 → is_empty_box box ≡ list_any is_void box.intervals
empty_whole box long = ap (list_any is_void) (take_all 16 box.intervals (omega arith))

-- a box that is not seen to be empty has a number at each place
not_void : (box : Boxes) → length box.intervals ≡ 16 → is_empty_box box ≡ false → (i : ℕ) → i < 16 → is_void (interval_at box i) ≡ false
not_void box long some i h = decided (is_void (interval_at box i)) refl
  where
    decided : (b : Bool) → is_void (interval_at box i) ≡ b → is_void (interval_at box i) ≡ false
    decided false is = is
    decided true is = absurd (let all : list_any is_void box.intervals ≡ true = list_any_at is_void box.intervals i every_number (omega arith) is in let whole = empty_whole box long in cc)

-- its witness
witness : Boxes → List ℤ
witness box = at_places (λ i. inner (interval_at box i).lower (interval_at box i).upper)

witness_is : (box : Boxes) → IsStore (witness box)
unfolding witness
witness_is box = length-at_places _

witness_holds : (box : Boxes) → length box.intervals ≡ 16 → is_empty_box box ≡ false → (i : ℕ) → i < 16
    → Holds (interval_at box i) (number_at (witness box) i)
unfolding witness
witness_holds box long some i h =
    let both = inner_holds (interval_at box i).lower (interval_at box i).upper (not_void box long some i h) in
    rw number_at_places (record { from = both.0; up_to = both.1 })

pub empty_exact : (box : Boxes) → length box.intervals ≡ 16 → ((store : List ℤ) → IsStore store → Has box store → ⊥)
    → is_empty_box box ≡ true
empty_exact box long none = decided (is_empty_box box) refl
  where
    decided : (b : Bool) → is_empty_box box ≡ b → is_empty_box box ≡ true
    decided true is = is
    decided false is = absurd (none (witness box) (witness_is box) (holds_member box (witness box) (witness_holds box long is)))

-- the witness with another number at a place
moved_holds : (box : Boxes) (place : ℕ) (z : ℤ) → length box.intervals ≡ 16 → is_empty_box box ≡ false → place < 16
    → Holds (interval_at box place) z → Has box (set (witness box) place z)
moved_holds box place z long some low holds = holds_member box (set (witness box) place z) (λ i h.
    let inside : place < length (witness box) = omega (arith, witness_is box) in
    ⊎_elim
    (λ (same : (eqb i place ≡ true) × (i ≡ place)). rw (number_at-set (witness box) place i z inside, same.0, same.1) holds)
    (λ (apart : (eqb i place ≡ false)
    × (i ≢ place)). rw (number_at-set (witness box) place i z inside, apart.0) (witness_holds box long some i h))
    (eqb_tells i place))

module _ (box : Boxes) (long : length box.intervals ≡ 16) (some : is_empty_box box ≡ false) (bounds : Bounds) (inside : Within (Has box) (LiesIn bounds)) (i : ℕ) (low : i < 16) (m : ℤ) where
  -- a number that the interval has at the place is between the bounds there
  lower_bound : lower_end bounds i ≡ Some m → (z : ℤ) → Holds (interval_at box i) z → m ≤ℤ z
  lower_bound is z holds =
      let store_is : IsStore (set (witness box) i z) = length-set (witness box) i z ∙ witness_is box in
      let lies = (inside (set (witness box) i z) store_is (moved_holds box i z long some low holds)).lower i low in
      let at : i < length (witness box) = omega (arith, witness_is box) in
      simp (is, get_or-set_same) at lies

  upper_bound : upper_end bounds i ≡ Some m → (z : ℤ) → Holds (interval_at box i) z → z ≤ℤ m
  upper_bound is z holds =
      let store_is : IsStore (set (witness box) i z) = length-set (witness box) i z ∙ witness_is box in
      let lies = (inside (set (witness box) i z) store_is (moved_holds box i z long some low holds)).upper i low in
      let at : i < length (witness box) = omega (arith, witness_is box) in
      simp (is, get_or-set_same) at lies

-- a bound below each number of an interval with some is below its lower end
starts_from : (lower upper : Bound ℤ) (m : ℤ) → void_ends lower upper ≡ false
    → ((z : ℤ) → IsFrom (some_end lower) z → IsUpTo (some_end upper) z → m ≤ℤ z) → IsSomeAnd (some_end lower) (λ end. m ≤ℤ end)
starts_from (At lower) (At upper) m some bound = bound lower (omega (arith, ints)) (omega (arith, ints))
starts_from (At lower) Without m some bound = bound lower (omega (arith, ints)) tt
starts_from Without (At upper) m some bound = by_lt_z upper m
    (λ less. absurd (let p = bound upper tt (omega (arith, ints)) in omega (arith, ints)))
    (λ from. absurd (let p = bound (m -ℤ pos 1) tt (omega (arith, ints)) in omega (arith, ints)))
starts_from Without Without m some bound = absurd (let p = bound (m -ℤ pos 1) tt tt in omega (arith, ints))

ends_up_to : (lower upper : Bound ℤ) (m : ℤ) → void_ends lower upper ≡ false
    → ((z : ℤ) → IsFrom (some_end lower) z → IsUpTo (some_end upper) z → z ≤ℤ m) → IsSomeAnd (some_end upper) (λ end. end ≤ℤ m)
ends_up_to (At lower) (At upper) m some bound = bound upper (omega (arith, ints)) (omega (arith, ints))
ends_up_to Without (At upper) m some bound = bound upper tt (omega (arith, ints))
ends_up_to (At lower) Without m some bound = by_lt_z m lower
    (λ less. absurd (let p = bound lower (omega (arith, ints)) tt in omega (arith, ints)))
    (λ from. absurd (let p = bound (m +ℤ pos 1) (omega (arith, ints)) tt in omega (arith, ints)))
ends_up_to Without Without m some bound = absurd (let p = bound (m +ℤ pos 1) tt tt in omega (arith, ints))

-- ---- the hull

from_start : (end : Option ℤ) (m z : ℤ) → IsSomeAnd end (λ lower. m ≤ℤ lower) → IsFrom end z → m ≤ℤ z
from_start None m z starts from = absurd starts
from_start (Some end) m z starts from = omega (arith, ints)

up_to_end : (end : Option ℤ) (m z : ℤ) → IsSomeAnd end (λ upper. upper ≤ℤ m) → IsUpTo end z → z ≤ℤ m
up_to_end None m z ends up = absurd ends
up_to_end (Some end) m z ends up = omega (arith, ints)

-- hulls at all places make the least box round two that are not empty
pub hull_least : (a b hull : Boxes) → length a.intervals ≡ 16 → length b.intervals ≡ 16 → is_empty_box a ≡ false → is_empty_box b ≡ false
    → PlacesBelow (λ i range. IsHull (interval_at a i) (interval_at b i) range) 16 hull → IsLeastOf (Has a) (Has b) (Has hull)
hull_least a b hull long also some other hulls bounds in_a in_b store is has = record {
  lower = λ i h. lower i h (lower_end bounds i) refl;
  upper = λ i h. upper i h (upper_end bounds i) refl;
}
  where
    lower : (i : ℕ) → i < 16 → (end : Option ℤ) → lower_end bounds i ≡ end → IsFrom (lower_end bounds i) (number_at store i)
    lower i h None e = rw e tt
    lower i h (Some m) e =
        let own = starts_from (interval_at a i).lower (interval_at a i).upper m (not_void a long some i h) (λ z from up. lower_bound a long some bounds in_a i h m e z (record { from = from; up_to = up })) in
        let others = starts_from (interval_at b i).lower (interval_at b i).upper m (not_void b also other i h) (λ z from up. lower_bound b also other bounds in_b i h m e z (record { from = from; up_to = up })) in
        rw e (from_start (some_end (interval_at hull i).lower) m (number_at store i) ((hulls.each i h).least_lower m own others) (member_holds hull store has i h).from)

    upper : (i : ℕ) → i < 16 → (end : Option ℤ) → upper_end bounds i ≡ end → IsUpTo (upper_end bounds i) (number_at store i)
    upper i h None e = rw e tt
    upper i h (Some m) e =
        let own = ends_up_to (interval_at a i).lower (interval_at a i).upper m (not_void a long some i h) (λ z from up. upper_bound a long some bounds in_a i h m e z (record { from = from; up_to = up })) in
        let others = ends_up_to (interval_at b i).lower (interval_at b i).upper m (not_void b also other i h) (λ z from up. upper_bound b also other bounds in_b i h m e z (record { from = from; up_to = up })) in
        rw e (up_to_end (some_end (interval_at hull i).upper) m (number_at store i) ((hulls.each i h).least_upper m own others) (member_holds hull store has i h).up_to)

-- ---- a number set at a place

pub assigned : (box : Boxes) (place : ℕ) (value : Linear) (next : Interval) → place < 16 → length box.intervals ≡ 16
    → some_end next.lower ≡ least_value value (bounds_of box) → some_end next.upper ≡ greatest_value value (bounds_of box)
    → KeepsAssigned place value (Has box) (Has (record { intervals = set box.intervals place next }))
assigned box place value next low long lower upper store z is has covers =
    let placed : IsSetAt box place next (record { intervals = set box.intervals place next }) = set_at box place next (omega arith) in
    let holds : Holds next z = record {
      from = rw lower (from_least value (bounds_of box) store z has covers);
      up_to = rw upper (up_to_greatest value (bounds_of box) store z has covers);
    } in
    let inside : place < length store = omega arith in
    holds_member _ (set store place z) (λ i h. ⊎_elim
    (λ (same : (eqb i place ≡ true) × (i ≡ place)). rw (number_at-set store place i z inside, same.0, same.1, placed.here) holds)
    (λ (apart : (eqb i place ≡ false)
    × (i ≢ place)). rw (number_at-set store place i z inside, apart.0, placed.others i apart.1) (member_holds box store has i h))
    (eqb_tells i place))

pub sets_ends : (box : Boxes) (place : ℕ) (value : Linear) (next : Interval) → place < length box.intervals
    → some_end next.lower ≡ least_value value (bounds_of box) → some_end next.upper ≡ greatest_value value (bounds_of box)
    → SetsEnds place value (bounds_of box) (bounds_of (record { intervals = set box.intervals place next }))
sets_ends box place value next low lower upper =
    let now : Boxes = record { intervals = set box.intervals place next } in
    let here : interval_at now place ≡ next = (set_at box place next low).here in (
      lower_at now place ∙ ap (λ t. some_end t.lower) here ∙ lower,
      upper_at now place ∙ ap (λ t. some_end t.upper) here ∙ upper,
    )

-- ---- members of boxes made place by place

pub within_places : (a box : Boxes) (P : ℕ → Interval → Type 0)
    → ((i : ℕ) (range : Interval) → P i range → (z : ℤ) → Holds (interval_at a i) z → Holds range z) → PlacesBelow P 16 box
    → Within (Has a) (Has box)
within_places a box P holds below store is has =
    holds_member box store (λ i h. holds i (interval_at box i) (below.each i h) (number_at store i) (member_holds a store has i h))

pub empty_within : (box : Boxes) (set : List ℤ → Type 0) → length box.intervals ≡ 16 → is_empty_box box ≡ true → Within (Has box) set
empty_within box set long empty store is has = absurd (empty_none box store empty has)

-- the ends that are written down are those of the intervals
pub ends_all : (box : Boxes) (ends : List (Option ℤ × Option ℤ)) → length box.intervals ≡ 16 → length ends ≡ 16
    → ((i : ℕ) → i < 16 → get_or ends i (None, None) ≡ ends_of (interval_at box i)) → ends ≡ map ends_of box.intervals
ends_all box ends long also same =
    ext_get_or (None, None) ends (map ends_of box.intervals) (also ∙ sym (simp length-map long))
    (λ i h. same i (omega (arith, also)) ∙ sym (ends_at box i))

-- ---- ends before and after

pub widening_ends : (a b wide : Boxes) → PlacesBelow (λ i range. IsWidened (interval_at a i) (interval_at b i) range) 16 wide
    → IsWidening (bounds_of a) (bounds_of b) (bounds_of wide)
widening_ends a b wide below = record {
  stable_lower = λ i m h is from. lower_at wide i
      ∙ (below.each i h).stable_lower m (sym (lower_at a i)
      ∙ is) (subst (λ (t : Option ℤ). IsSomeAnd t (λ end. m ≤ℤ end)) (lower_at b i) from);
  stable_upper = λ i m h is up. upper_at wide i
      ∙ (below.each i h).stable_upper m (sym (upper_at a i)
      ∙ is) (subst (λ (t : Option ℤ). IsSomeAnd t (λ end. end ≤ℤ m)) (upper_at b i) up);
  no_new_lower = λ i h. ⊎_elim (λ same. inl (lower_at wide i ∙ same ∙ sym (lower_at a i))) (λ none. inr (lower_at wide i
      ∙ none)) (below.each i h).no_new_lower;
  no_new_upper = λ i h. ⊎_elim (λ same. inl (upper_at wide i ∙ same ∙ sym (upper_at a i))) (λ none. inr (upper_at wide i
      ∙ none)) (below.each i h).no_new_upper;
}

pub other_ends : (box : Boxes) (place : ℕ) (range : Interval) → place < length box.intervals
    → KeepsOtherEnds place (bounds_of box) (bounds_of (record { intervals = set box.intervals place range }))
other_ends box place range low i apart =
    let next : Boxes = record { intervals = set box.intervals place range } in
    let same : interval_at next i ≡ interval_at box i = (set_at box place range low).others i apart in (
      lower_at next i ∙ ap (λ t. some_end t.lower) same ∙ sym (lower_at box i),
      upper_at next i ∙ ap (λ t. some_end t.upper) same ∙ sym (upper_at box i),
    )
