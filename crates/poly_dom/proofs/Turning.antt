-- What the constraints that are carried over an assignment say.
use Rattle.std.proofs.Common.{◌≡◌, ◌<◌, ℕ, ℤ, pos, neg_ℤ, ◌+ℤ◌, ◌-ℤ◌, ◌*ℤ◌, ◌≤ℤ◌, ◌<ℤ◌, List, length, set, cond, arith, refl, sym}
use Rattle.std.proofs.Common.{ap, ◌∙◌, ◌≤◌, eq-eqb, subst, Option, None, Some, Result, Ok, Err, OkIff, IfSome, Contains, []}
use Rattle.std.specs.Result.{result_unwrap_or}
use Rattle.std.proofs.lemmas.Int.{ints}
use Rattle.linear_cons.specs.declared.affine.Affine.{Affine}
use Rattle.linear_cons.specs.declared.bounds.Linear.{Linear}
use Rattle.linear_cons.specs.Bounds.{Covers, FitsWithEnd, IsFrom, IsUpTo, end_of, with_end}
use Rattle.linear_cons.specs.Functions.{coefficient, constant_of, difference_of, mixed_of, multiple_of, value_at, variable_at}
use Rattle.linear_cons.specs.Functions.{without}
use Rattle.linear_cons.specs.Numbers.{number_at}
use Rattle.linear_cons.proofs.Forms.{form_apart, form_unmentioned, value_constant, value_difference, value_multiple, value_sum}
use Rattle.linear_cons.proofs.Forms.{value_variable}
use Rattle.linear_cons.proofs.Places.{number_at-clear, number_at-set, number_at_places}
use Rattle.linear_cons.proofs.Ring.{add_zero, mul_add, mul_assoc, mul_commutes, mul_nonnegative, mul_turned, mul_zero, neg_mul, zero_mul}
use Rattle.linear_cons.specs.declared.exact.Wide.{Wide}
use Rattle.linear_cons.specs.declared.row.Row.{Row}
use Rattle.linear_cons.specs.Rows.{Meets, MeetsAll}
use Rattle.linear_solve.specs.Answers.{KeepsStores}
use Rattle.linear_solve.proofs.Lists.{member_of}
use Rattle.num_domain.specs.Domain.{IsStore}
use Rattle.num_domain.proofs.LineLaws.{all_none}
use Rattle.poly_dom.specs.Assignments.{AddsAfter, HoldAfter, IsBounding, read_with}
use Rattle.poly_dom.specs.Lists.{IsAdded}

-- a function without a place doesn't mention it
pub unmentioned : (a : Affine) (place : ℕ) → coefficient (without a place) place ≡ pos 0
unmentioned a place = rw (number_at-clear a.coef place place, eq-eqb place place refl) refl

module _ (value : Linear) (end z : ℤ) (place : ℕ) (store : List ℤ) (low : place < 16) (long : length store ≡ 16) where
  inside : place < length store
  inside = omega arith

  -- the expression with an end has its coefficients
  same : coefficient (end_of value end) place ≡ coefficient value.affine place
  same = number_at_places (λ i. coefficient value.affine i +ℤ coefficient (constant_of end) i) place low
      ∙ ap (λ t. coefficient value.affine place +ℤ t) (number_at_places (λ i. pos 0) place low)
      ∙ add_zero (coefficient value.affine place)

  -- its other terms
  others : value_at (without (end_of value end) place) (set store place z)
      ≡ value_at value.affine store +ℤ end -ℤ coefficient value.affine place *ℤ number_at store place
  others =
      let still = form_unmentioned (without (end_of value end) place) place store (pos 1) z inside (unmentioned (end_of value end) place) in
      let apart = rw same at (form_apart (end_of value end) place store (pos 1) low) in
      let sum = value_sum value.affine (constant_of end) store in
      let constant = value_constant end store in
      omega (arith, ints, still, apart, sum, constant)

  -- the new number less these is what is read of the old one, and what the expression adds beyond the end
  read : value_at (difference_of (variable_at place) (without (end_of value end) place)) (set store place z)
      ≡ coefficient value.affine place *ℤ number_at store place +ℤ (z -ℤ value_at value.affine store -ℤ end)
  read =
      let difference = value_difference (variable_at place) (without (end_of value end) place) (set store place z) in
      let new = value_variable place (set store place z) low ∙ number_at-set store place place z inside
      ∙ ap (λ t. cond t z (number_at store place)) (eq-eqb place place refl) in
      let terms = others in
      omega (arith, ints, difference, new, terms)

  -- the constraint that is carried over
  carried : (rest : Affine) (by times : ℤ) → coefficient rest place ≡ pos 0
      → value_at (mixed_of rest by (difference_of (variable_at place) (without (end_of value end) place)) times) (set store place z)
      ≡ read_with rest by place value times store +ℤ times *ℤ (z -ℤ value_at value.affine store -ℤ end)
  carried rest by times none =
      let terms = difference_of (variable_at place) (without (end_of value end) place) in
      let sum = value_sum (multiple_of rest by) (multiple_of terms times) (set store place z) in
      let first = value_multiple rest by (set store place z) in
      let still = form_unmentioned rest place store (pos 1) z inside none in
      let second = value_multiple terms times (set store place z) in
      let parts = mul_add times (coefficient value.affine place *ℤ number_at store place) (z -ℤ value_at value.affine store -ℤ end) in
      rw (sum, first, still, second, read, parts) (omega (arith, ints))

-- what is added beyond the end, times a factor whose sign fits the end, is at least 0
pub beyond_lower : (times d end : ℤ) → pos 0 ≤ℤ times → end ≤ℤ d → pos 0 ≤ℤ (times *ℤ (d -ℤ end))
beyond_lower times d end positive from = mul_nonnegative times (d -ℤ end) positive (omega (arith, ints))

pub beyond_upper : (times d end : ℤ) → times <ℤ pos 0 → d ≤ℤ end → pos 0 ≤ℤ (times *ℤ (d -ℤ end))
beyond_upper times d end negative to =
    let turned = mul_turned times (d -ℤ end) (pos 0) negative (omega (arith, ints)) in
    let nothing = mul_zero times in
    omega (arith, ints, turned, nothing)

-- no terms, of an expression that doesn't read the old number
pub nothing_unmentioned : (a : Affine) (place : ℕ) → a ≡ constant_of (pos 0) → place < 16 → coefficient a place ≡ pos 0
nothing_unmentioned a place is low = rw is (number_at_places (λ i. pos 0) place low)

pub nothing_above : (a : Affine) (place : ℕ) (value : Linear) (times : ℤ) (store : List ℤ) → coefficient value.affine place ≡ pos 0
    → pos 0 ≤ℤ read_with a (pos 0) place value times store
nothing_above a place value times store unread =
    rw (unread, zero_mul (number_at store place), mul_zero times, zero_mul (value_at a store)) (omega (arith, ints))

-- where the constraint's old part is at least 0, the carried one is too
pub carried_above : (value : Linear) (rest ended mixed : Affine) (by times z : ℤ) (place : ℕ) (store : List ℤ) → place < 16
    → length store ≡ 16 → coefficient rest place ≡ pos 0 → IsBounding value times ended
    → mixed ≡ mixed_of rest by (difference_of (variable_at place) (without ended place)) times → Covers value store z
    → pos 0 ≤ℤ read_with rest by place value times store → pos 0 ≤ℤ value_at mixed (set store place z)
carried_above value rest ended mixed by times z place store low long none bounding is covers above =
    let sum = carried value bounding.end z place store low long rest by times none in
    let beyond = bounding.beyond store z covers in
    rw (is, bounding.is, sum) (omega (arith, ints, above, beyond))

-- the expression's function with an end, where there is one
ended_by : (value : Linear) (times : ℤ) (end : Option ℤ) (ended : Option Affine) → ended ≡ with_end value end
    → ((e : ℤ) → end ≡ Some e → (store : List ℤ) (z : ℤ) → Covers value store z
    → pos 0 ≤ℤ (times *ℤ (z -ℤ value_at value.affine store -ℤ e))) → IfSome ended (IsBounding value times)
ended_by value times None ended is beyond = rw is tt
ended_by value times (Some e) ended is beyond = rw is (record { end = e; is = refl; beyond = beyond e refl })

ended_result : (value : Linear) (times : ℤ) (end : Option ℤ) (ended : Result (Option Affine) Wide)
    → OkIff ended (FitsWithEnd value end) (with_end value end) → ((e : ℤ) → end ≡ Some e → (store : List ℤ) (z : ℤ) → Covers value store z
    → pos 0 ≤ℤ (times *ℤ (z -ℤ value_at value.affine store -ℤ e))) → IfSome (result_unwrap_or ended None) (IsBounding value times)
ended_result value times end (Ok ended) known beyond = ended_by value times end ended known.1 beyond
ended_result value times end (Err wide) known beyond = tt

pub upper_bounding : (value : Linear) (times : ℤ) (ended : Result (Option Affine) Wide)
    → OkIff ended (FitsWithEnd value value.hi) (with_end value value.hi) → times <ℤ pos 0
    → IfSome (result_unwrap_or ended None) (IsBounding value times)
upper_bounding value times ended known negative = ended_result value times value.hi ended known
    (λ e is store z covers. beyond_upper times (z -ℤ value_at value.affine store) e negative
    (subst (λ end. IsUpTo end (z -ℤ value_at value.affine store)) is covers.upper))

pub lower_bounding : (value : Linear) (times : ℤ) (ended : Result (Option Affine) Wide)
    → OkIff ended (FitsWithEnd value value.lo) (with_end value value.lo) → pos 0 ≤ℤ times
    → IfSome (result_unwrap_or ended None) (IsBounding value times)
lower_bounding value times ended known positive = ended_result value times value.lo ended known
    (λ e is store z covers. beyond_lower times (z -ℤ value_at value.affine store) e positive
    (subst (λ end. IsFrom end (z -ℤ value_at value.affine store)) is covers.lower))

-- ---- a row that is turned

-- the factors of a product of three in another order
swapped : (f own x : ℤ) → f *ℤ (own *ℤ x) ≡ own *ℤ (f *ℤ x)
swapped f own x = sym (mul_assoc f own x) ∙ ap (λ t. t *ℤ x) (mul_commutes f own) ∙ mul_assoc own f x

-- the row, times a factor that is at least 0, without the place and the place's product apart
spread : (a : Affine) (by : ℤ) (place : ℕ) (store : List ℤ) → place < 16 → pos 0 ≤ℤ by → pos 0 ≤ℤ value_at a store
    → pos 0 ≤ℤ (by *ℤ value_at (without a place) store +ℤ by *ℤ (coefficient a place *ℤ number_at store place))
spread a by place store low positive met =
    let product = mul_nonnegative by (value_at a store) positive met in
    let apart = form_apart a place store (pos 1) low in
    rw (apart, mul_add by (value_at (without a place) store) (coefficient a place *ℤ number_at store place)) at product

-- the row, times the size of the factor with which the old number is read
pub turned_lower : (a : Affine) (place : ℕ) (value : Linear) (store : List ℤ) → place < 16
    → pos 0 ≤ℤ coefficient value.affine place → pos 0 ≤ℤ value_at a store
    → pos 0 ≤ℤ read_with (without a place) (coefficient value.affine place) place value (coefficient a place) store
turned_lower a place value store low positive met =
    let parts = spread a (coefficient value.affine place) place store low positive met in
    let swap = swapped (coefficient value.affine place) (coefficient a place) (number_at store place) in
    rw swap at parts

pub turned_upper : (a : Affine) (place : ℕ) (value : Linear) (store : List ℤ) → place < 16
    → coefficient value.affine place <ℤ pos 0 → pos 0 ≤ℤ value_at a store
    → pos 0 ≤ℤ read_with (without a place) (neg_ℤ (coefficient value.affine place)) place value (neg_ℤ (coefficient a place)) store
turned_upper a place value store low negative met =
    let parts = spread a (neg_ℤ (coefficient value.affine place)) place store low (omega (arith, ints)) met in
    let swap = swapped (coefficient value.affine place) (coefficient a place) (number_at store place) in
    let left = neg_mul (coefficient value.affine place) (coefficient a place *ℤ number_at store place) in
    let right = neg_mul (coefficient a place) (coefficient value.affine place *ℤ number_at store place) in
    omega (arith, ints, parts, swap, left, right)

-- what is said of a value that may be missing says less of it
pub if_some_more : {X : Type 0} (o : Option X) (P Q : X → Type 0) → ((x : X) → P x → Q x) → IfSome o P → IfSome o Q
if_some_more None P Q more holds = holds
if_some_more (Some x) P Q more holds = more x holds

-- ---- lists of rows after an assignment

-- a row that doesn't mention the place holds with any number there
pub still_met : (rows old new : List Row) (row : Row) (place : ℕ) → place < 16 → Contains rows row → coefficient row.affine place ≡ pos 0
    → KeepsStores rows place old → IsAdded row old new → KeepsStores rows place new
still_met rows old new row place low member none kept added store z long met =
    added.keeps (set store place z) (kept store z long met)
    (rw (form_unmentioned row.affine place store (pos 1) z (omega (arith, low, long)) none) (member_of (λ r. Meets store r) rows row met member))

-- a list that grew by a row that holds then
pub after_more : (place : ℕ) (value : Linear) (given old now new : List Row) (row : Row)
    → ((store : List ℤ) (z : ℤ) → IsStore store → Covers value store z → MeetsAll store given → Meets (set store place z) row)
    → AddsAfter place value given old now → IsAdded row now new → AddsAfter place value given old new
after_more place value given old now new row holds before added = record {
  keeps = λ store z is covers met was. added.keeps (set store place z) (before.keeps store z is covers met was)
      (holds store z is covers met);
  few = added.few;
}

-- what is said of the other places, and then of the new number by the two ends of an expression that doesn't read the old one
pub hold_ended : (place : ℕ) (value : Linear) (rows first one list : List Row) → KeepsStores rows place first
    → AddsAfter place value [] first one → AddsAfter place value [] one list → HoldAfter place value rows list
hold_ended place value rows first one list kept lower upper store z is covers met =
    upper.keeps store z is covers (all_none (λ r. Meets store r))
    (lower.keeps store z is covers (all_none (λ r. Meets store r)) (kept store z is met))

-- a list that has grown by nothing yet
pub after_none : (place : ℕ) (value : Linear) (given list : List Row) → length list ≤ 256 → AddsAfter place value given list list
after_none place value given list few = record { keeps = λ store z is covers met was. was; few = few }
