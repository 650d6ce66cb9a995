-- The laws of boxes that the trait asks: what is seen to be empty, and the rows of the ends.
use Rattle.std.proofs.Common.{◌≡◌, ◌≢◌, ℕ, zero, suc, ◌<◌, ◌≤◌, ◌-◌, ◌^◌, ℤ, pos, negsuc, neg_ℤ, ◌+ℤ◌, ◌*ℤ◌, ◌≤ℤ◌, Bool, true, false}
use Rattle.std.proofs.Common.{int_lt, eqb, cond, List, [], ◌∷◌, ◌++◌, length, get_or, take, map, Option, None, Some, arith, refl, sym}
use Rattle.std.proofs.Common.{subst, ⊎_elim, All}
use Rattle.std.proofs.lemmas.Int.{ints}
use Rattle.std.proofs.lemmas.Bool.Decides.{eqb_tells}
use Rattle.std.proofs.Math.ListN.{get_or-map}
use Rattle.std.proofs.lemmas.List.{get_or-take, length-take}
use Rattle.std.proofs.lemmas.List.Elements.{All-append}
use Rattle.std.specs.List.{list_any}
use Rattle.std.specs.Ordering.{int_eq}
use Rattle.linear_cons.specs.declared.bounds.Bounds.{Bounds}
use Rattle.linear_cons.specs.Bounds.{IsFrom, IsUpTo, LiesIn, lower_end, upper_end}
use Rattle.linear_cons.specs.Functions.{coefficient, value_at, variable_at}
use Rattle.linear_cons.specs.Numbers.{number_at}
use Rattle.linear_cons.specs.Rows.{MeetsAll}
use Rattle.linear_cons.proofs.Forms.{products_multiple, products_unit}
use Rattle.linear_cons.proofs.Places.{number_at_places}
use Rattle.linear_cons.proofs.Ring.{mul_one, mul_zero, one_mul}
use Rattle.linear_cons.proofs.Sums.{value_is}
use Rattle.num_domain.specs.declared.bound.Bound.{Bound}
use Rattle.num_domain.specs.declared.bound.Bound.TheVariants.{Without, At}
use Rattle.num_domain.specs.Ends.{some_end}
use Rattle.num_domain.proofs.LineLaws.{all_none, all_one, lines_met}
use Rattle.interval_dom.specs.declared.boxes.Boxes.{Boxes}
use Rattle.interval_dom.specs.declared.interval.Interval.{Interval}
use Rattle.interval_dom.specs.Boxes.{Has, bounds_of, ends_of, is_empty_box, line, lines_below, lower_line, rows_of}
use Rattle.interval_dom.specs.Boxes.{upper_line}
use Rattle.interval_dom.specs.Intervals.{Holds, is_void, void_ends}

-- ---- the interval at a place

abbrev pub every_number : Interval
every_number = record { lower = Without; upper = Without }

-- the interval at a place, and every number past the end
abbrev pub interval_at : Boxes → ℕ → Interval
interval_at box i = get_or box.intervals i every_number

pub ends_at : (box : Boxes) (i : ℕ) → get_or (map ends_of box.intervals) i (None, None) ≡ ends_of (interval_at box i)
ends_at box i = get_or-map ends_of box.intervals i every_number

-- a member is in the interval at each place
pub member_holds : (box : Boxes) (store : List ℤ) → Has box store → (i : ℕ) → i < 16 → Holds (interval_at box i) (number_at store i)
member_holds box store has i h =
    let e = ends_at box i in
    record {
      from = subst (λ (p : Option ℤ × Option ℤ). IsFrom p.0 (number_at store i)) e (has.lower i h);
      up_to = subst (λ (p : Option ℤ × Option ℤ). IsUpTo p.1 (number_at store i)) e (has.upper i h);
    }

pub holds_member : (box : Boxes) (store : List ℤ) → ((i : ℕ) → i < 16 → Holds (interval_at box i) (number_at store i)) → Has box store
holds_member box store holds = record {
  lower = λ i h. subst (λ (p : Option ℤ × Option ℤ). IsFrom p.0 (number_at store i)) (sym (ends_at box i)) (holds i h).from;
  upper = λ i h. subst (λ (p : Option ℤ × Option ℤ). IsUpTo p.1 (number_at store i)) (sym (ends_at box i)) (holds i h).up_to;
}

-- ---- emptiness

-- an interval with a number is not void
filled : (lower upper : Bound ℤ) (z : ℤ) → IsFrom (some_end lower) z → IsUpTo (some_end upper) z → void_ends lower upper ≡ false
filled (At lower) (At upper) z from up = let e : false ≡ int_lt upper lower = omega (arith, ints) in sym e
filled (At lower) Without z from up = refl
filled Without (At upper) z from up = refl
filled Without Without z from up = refl

none_void : (ranges : List Interval) → ((i : ℕ) → i < length ranges → is_void (get_or ranges i every_number) ≡ false)
    → list_any is_void ranges ≡ false
none_void [] each = refl
none_void (range ∷ ranges) each =
    let here : is_void range ≡ false = each 0 (omega arith) in
    rw here (none_void ranges (λ i h. each (suc i) (omega arith)))

-- a box that is seen to be empty has no member
pub empty_none : (box : Boxes) (store : List ℤ) → is_empty_box box ≡ true → Has box store → ⊥
empty_none box store empty has =
    let full : is_empty_box box ≡ false = none_void (take 16 box.intervals) (λ i h.
    let low : i < 16 = omega (arith, length-take 16 box.intervals) in
    let holds = member_holds box store has i low in
    rw (get_or-take 16 box.intervals i every_number low)
    (filled (interval_at box i).lower (interval_at box i).upper (number_at store i) holds.from holds.up_to)) in
    absurd (cc)

-- ---- rows

-- the value of a line: the factor times the number at the place, and the constant
pub line_value : (place : ℕ) (factor constant : ℤ) (store : List ℤ) → place < 16
    → value_at (line place factor constant) store ≡ factor *ℤ number_at store place +ℤ constant
line_value place factor constant store low =
    let multiples : (i : ℕ) → i < 16 → coefficient (line place factor constant) i ≡ factor *ℤ coefficient (variable_at place) i =
    λ i h. rw (
      number_at_places (λ i. cond (eqb i place) factor (pos 0)) i h,
      number_at_places (λ i. cond (eqb i place) (pos 1) (pos 0)) i h,
    ) (⊎_elim
    (λ (same : (eqb i place ≡ true) × (i ≡ place)). rw same.0 (sym (mul_one factor)))
    (λ (apart : (eqb i place ≡ false) × (i ≢ place)). rw apart.0 (sym (mul_zero factor)))
    (eqb_tells i place)) in
    let multiple = products_multiple 16 (line place factor constant).coef (variable_at place).coef store factor multiples in
    let unit =
    products_unit 16 place (variable_at place).coef store low (λ i h. number_at_places (λ i. cond (eqb i place) (pos 1) (pos 0)) i h) in
    rw (value_is (line place factor constant).coef constant store, multiple, unit) refl

lower_met : (place : ℕ) (end : Option ℤ) (store : List ℤ) → place < 16 → IsFrom end (number_at store place)
    → All (λ a. pos 0 ≤ℤ value_at a store) (lower_line place end)
lower_met place None store low from = all_none (λ a. pos 0 ≤ℤ value_at a store)
lower_met place (Some end) store low from = listed (int_eq end (negsuc (2 ^ 127 - 1)))
  where
    above : pos 0 ≤ℤ value_at (line place (pos 1) (neg_ℤ end)) store
    above = rw (line_value place (pos 1) (neg_ℤ end) store low, one_mul) (omega (arith, ints))

    listed : (b : Bool) → All (λ a. pos 0 ≤ℤ value_at a store) (cond b [] (line place (pos 1) (neg_ℤ end) ∷ []))
    listed true = all_none (λ a. pos 0 ≤ℤ value_at a store)
    listed false = all_one (λ a. pos 0 ≤ℤ value_at a store) (line place (pos 1) (neg_ℤ end)) above

upper_met : (place : ℕ) (end : Option ℤ) (store : List ℤ) → place < 16 → IsUpTo end (number_at store place)
    → All (λ a. pos 0 ≤ℤ value_at a store) (upper_line place end)
upper_met place None store low up = all_none (λ a. pos 0 ≤ℤ value_at a store)
upper_met place (Some end) store low up =
    let value = line_value place (negsuc 0) end store low in
    all_one (λ a. pos 0 ≤ℤ value_at a store) (line place (negsuc 0) end) (rw value (omega (arith, ints)))

below_met : (n : ℕ) (bounds : Bounds) (store : List ℤ) → n ≤ 16 → LiesIn bounds store
    → All (λ a. pos 0 ≤ℤ value_at a store) (lines_below n bounds)
unfolding lines_below
below_met zero bounds store small lies = all_none (λ a. pos 0 ≤ℤ value_at a store)
below_met (suc n) bounds store small lies =
    All-append (λ a. pos 0 ≤ℤ value_at a store)
    (lines_below n bounds ++ lower_line n (lower_end bounds n)) (upper_line n (upper_end bounds n))
    (All-append (λ a. pos 0 ≤ℤ value_at a store) (lines_below n bounds) (lower_line n (lower_end bounds n))
    (below_met n bounds store (omega arith) lies)
    (lower_met n (lower_end bounds n) store (omega arith) (lies.lower n (omega arith))))
    (upper_met n (upper_end bounds n) store (omega arith) (lies.upper n (omega arith)))

-- each member meets the rows of the ends
pub rows_met : (box : Boxes) (store : List ℤ) → Has box store → MeetsAll store (rows_of box)
unfolding rows_of
rows_met box store has = lines_met (lines_below 16 (bounds_of box)) store (below_met 16 (bounds_of box) store (omega arith) has)
