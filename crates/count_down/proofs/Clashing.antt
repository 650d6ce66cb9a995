-- Functions that cancel have rows that clash.
use Rattle.std.proofs.Common.{◌≡◌, ℕ, ◌-◌, ◌*◌, ◌<◌, ◌≤◌, ℤ, pos, negsuc, neg_ℤ, ◌+ℤ◌, ◌*ℤ◌, ◌≤ℤ◌, ◌<ℤ◌, List, length, unsigned_abs, ⊎_elim, sym, ap, ◌∙◌, arith}
use Rattle.std.proofs.Math.Nat.{mul-le-mul}
use Rattle.std.proofs.lemmas.Bool.{cases_lt}
use Rattle.std.proofs.lemmas.Int.{by_lt_z, ints}
use Rattle.linear_cons.specs.declared.affine.Affine.{Affine}
use Rattle.linear_cons.specs.declared.row.Row.{Row}
use Rattle.linear_cons.specs.declared.row.RowKind.{RowKind}
use Rattle.linear_cons.specs.declared.row.RowKind.TheVariants.{Always, Never, Row as Kept}
use Rattle.linear_cons.specs.Divisor.{IsPrimitive}
use Rattle.linear_cons.specs.Functions.{IsConstant, IsQuotient, coefficient, constant_of, multiple_of, sum_of, value_at}
use Rattle.linear_cons.specs.Numbers.{at_places, number_at}
use Rattle.linear_cons.specs.Rows.{AreOpposed, IsRowOf, row_kind_of}
use Rattle.linear_cons.proofs.Dividing.{zeros_not_primitive}
use Rattle.linear_cons.proofs.Forms.{same_coefficient, same_constant, value_constant, value_multiple, value_sum}
use Rattle.linear_cons.proofs.KindLaws.{row_kind_is}
use Rattle.linear_cons.proofs.Places.{length-at_places, number_at_places}
use Rattle.linear_cons.proofs.Ring.{add_mul, mul_add, mul_assoc, mul_commutes, mul_le, mul_lt, mul_neg, mul_one, mul_zero}
use Rattle.linear_cons.proofs.RowKinds.{quotient_unique}
use Rattle.count_down.specs.Cancelling.{Cancel, Clash}

-- a positive multiple is 0 only of 0
zero_factor : (g : ℕ) (z : ℤ) → 0 < g → pos g *ℤ z ≡ pos 0 → z ≡ pos 0
zero_factor g z positive is =
    let above : pos 0 <ℤ pos g = omega (arith, ints) in
    let none = mul_zero (pos g) in
    by_lt_z z (pos 0)
    (λ less. absurd (let p = mul_lt (pos g) z (pos 0) above less in omega (arith, ints)))
    (λ from. by_lt_z (pos 0) z
    (λ more. absurd (let p = mul_lt (pos g) (pos 0) z above more in omega (arith, ints)))
    (λ to. omega (arith, ints)))

-- a constant function has no row
no_row : (a : Affine) (row : Row) → IsQuotient a row.affine → ¬ IsConstant a
no_row a row by none =
    zeros_not_primitive row.affine.coef
    (λ i low. zero_factor by.divisor (coefficient row.affine i) by.positive (sym (by.coefficients i low) ∙ none i low)) row.primitive

-- ---- the numbers of two functions that cancel
module _ (a b : Affine) (cancels : Cancel a b) where
  abbrev p : ℕ
  p = cancels.times

  abbrev q : ℕ
  q = cancels.others

  abbrev whole : Affine
  whole = sum_of (multiple_of a (pos p)) (multiple_of b (pos q))

  abbrev lacking : Affine
  lacking = constant_of (negsuc cancels.lack)

  same_values : (store : List ℤ) → length store ≡ 16 → value_at whole store ≡ value_at lacking store
  same_values store long =
      value_sum (multiple_of a (pos p)) (multiple_of b (pos q)) store
      ∙ ap (λ t. t +ℤ value_at (multiple_of b (pos q)) store) (value_multiple a (pos p) store)
      ∙ ap (λ t. pos p *ℤ value_at a store +ℤ t) (value_multiple b (pos q) store)
      ∙ cancels.sum store long
      ∙ sym (value_constant (negsuc cancels.lack) store)

  linear : (i : ℕ) → i < 16 → pos p *ℤ coefficient a i +ℤ pos q *ℤ coefficient b i ≡ pos 0
  linear i h =
      let same : coefficient whole i ≡ coefficient lacking i = same_coefficient whole lacking same_values i h in
      let first = number_at_places (λ i. coefficient a i *ℤ pos p) i h in
      let second = number_at_places (λ i. coefficient b i *ℤ pos q) i h in
      let sum = number_at_places (λ i. coefficient (multiple_of a (pos p)) i +ℤ coefficient (multiple_of b (pos q)) i) i h in
      let none = number_at_places (λ i. pos 0) i h in
      let turned = mul_commutes (pos p) (coefficient a i) in
      let back = mul_commutes (pos q) (coefficient b i) in
      omega (arith, ints)

  constants : (pos p *ℤ a.constant +ℤ pos q *ℤ b.constant) <ℤ pos 0
  constants =
      let same : a.constant *ℤ pos p +ℤ b.constant *ℤ pos q ≡ negsuc cancels.lack = same_constant whole lacking same_values in
      let turned = mul_commutes (pos p) a.constant in
      let back = mul_commutes (pos q) b.constant in
      omega (arith, ints)

  -- ---- one of them is constant
  natural : (n : ℕ) (z : ℤ) → pos 0 ≤ℤ z → pos 0 ≤ℤ (pos n *ℤ z)
  natural n z from = let none = mul_zero (pos n) in let product = mul_le (pos n) (pos 0) z (omega (arith, ints)) from in omega (arith, ints)

  not_both_always : pos 0 ≤ℤ a.constant → pos 0 ≤ℤ b.constant → ⊥
  not_both_always first second =
      let one = natural p a.constant first in
      let two = natural q b.constant second in
      let below = constants in
      omega (arith, ints)

  second_constant : IsConstant a → IsConstant b
  second_constant none i h =
      zero_factor q (coefficient b i) cancels.some_others
      (let sum = linear i h in let zero = ap (λ t. pos p *ℤ t) (none i h) in let nought = mul_zero (pos p) in omega (arith, ints))

  first_constant : IsConstant b → IsConstant a
  first_constant none i h =
      zero_factor p (coefficient a i) cancels.some_times
      (let sum = linear i h in let zero = ap (λ t. pos q *ℤ t) (none i h) in let nought = mul_zero (pos q) in omega (arith, ints))

  -- ---- both have rows
  module _ (row other : Row) (first : IsQuotient a row.affine) (second : IsQuotient b other.affine) where
    abbrev one : ℕ
    one = p * first.divisor

    abbrev two : ℕ
    two = q * second.divisor

    one_positive : 0 < one
    one_positive = let some = cancels.some_times in let by = first.positive in let product : 1 * 1 ≤ p * first.divisor = mul-le-mul some by in omega arith

    two_positive : 0 < two
    two_positive = let some = cancels.some_others in let by = second.positive in let product : 1 * 1 ≤ q * second.divisor = mul-le-mul some by in omega arith

    one_times : (z : ℤ) → pos one *ℤ z ≡ pos p *ℤ (pos first.divisor *ℤ z)
    one_times z = mul_assoc (pos p) (pos first.divisor) z

    two_times : (z : ℤ) → pos two *ℤ z ≡ pos q *ℤ (pos second.divisor *ℤ z)
    two_times z = mul_assoc (pos q) (pos second.divisor) z

    opposite : (i : ℕ) → i < 16 → pos one *ℤ coefficient row.affine i ≡ pos two *ℤ neg_ℤ (coefficient other.affine i)
    opposite i low =
        let sum = linear i low in
        let left = one_times (coefficient row.affine i) ∙ ap (λ t. pos p *ℤ t) (sym (first.coefficients i low)) in
        let right = two_times (coefficient other.affine i) ∙ ap (λ t. pos q *ℤ t) (sym (second.coefficients i low)) in
        let turned = mul_neg (pos two) (coefficient other.affine i) in
        omega (arith, ints)

    -- one linear part, of which the first row's and the negative of the second's are quotients
    abbrev linear_part : Affine
    linear_part = record { coef = at_places (λ i. pos one *ℤ coefficient row.affine i); constant = pos 0 }

    abbrev own : Affine
    own = record { coef = row.affine.coef; constant = pos 0 }

    abbrev turned_other : Affine
    turned_other = record { coef = at_places (λ i. neg_ℤ (coefficient other.affine i)); constant = pos 0 }

    own_quotient : IsQuotient linear_part own
    own_quotient = record {
      divisor = one;
      positive = one_positive;
      places = first.places;
      coefficients = λ i low. number_at_places (λ i. pos one *ℤ coefficient row.affine i) i low;
      at_most = rw mul_zero (omega (arith, ints));
      below_next = let some = one_positive in rw mul_one (omega (arith, ints));
    }

    other_quotient : IsQuotient linear_part turned_other
    other_quotient = record {
      divisor = two;
      positive = two_positive;
      places = length-at_places (λ i. neg_ℤ (coefficient other.affine i));
      coefficients = λ i low.
          number_at_places (λ i. pos one *ℤ coefficient row.affine i) i low
          ∙ opposite i low
          ∙ ap (λ t. pos two *ℤ t) (sym (number_at_places (λ i. neg_ℤ (coefficient other.affine i)) i low));
      at_most = rw mul_zero (omega (arith, ints));
      below_next = let some = two_positive in rw mul_one (omega (arith, ints));
    }

    turned_primitive : IsPrimitive turned_other.coef
    turned_primitive d all =
        other.primitive d
        (λ i low.
        let size : unsigned_abs (number_at turned_other.coef i) ≡ unsigned_abs (coefficient other.affine i) = rw (number_at_places (λ i. neg_ℤ (coefficient other.affine i)) i low) (omega (arith, ints)) in
        rw (← size) (all i low))

    same_part : (i : ℕ) → i < 16 → coefficient row.affine i ≡ neg_ℤ (coefficient other.affine i)
    same_part i low =
        (quotient_unique linear_part own turned_other own_quotient other_quotient row.primitive turned_primitive).0 i low
        ∙ number_at_places (λ i. neg_ℤ (coefficient other.affine i)) i low

    -- so both are taken the same number of times
    both_times : (i : ℕ) → i < 16 → pos one *ℤ coefficient row.affine i ≡ pos two *ℤ coefficient row.affine i
    both_times i low = opposite i low ∙ ap (λ t. pos two *ℤ t) (sym (same_part i low))

    not_apart : (m n : ℕ) → m < n → ((i : ℕ) → i < 16 → pos m *ℤ coefficient row.affine i ≡ pos n *ℤ coefficient row.affine i) → ⊥
    not_apart m n less same = zeros_not_primitive row.affine.coef
        (λ i low.
        let z = coefficient row.affine i in
        let parts : pos n ≡ pos m +ℤ pos (n - m) = omega (arith, ints) in
        let spread : pos n *ℤ z ≡ pos m *ℤ z +ℤ pos (n - m) *ℤ z = ap (λ k. k *ℤ z) parts ∙ add_mul (pos m) (pos (n - m)) z in
        zero_factor (n - m) z (omega arith) (let s = same i low in omega (arith, ints)))
        row.primitive

    same_times : one ≡ two
    same_times = ⊎_elim
        (λ (less : one < two). absurd (not_apart one two less both_times))
        (λ (from : two ≤ one). ⊎_elim
        (λ (more : two < one). absurd (not_apart two one more (λ i low. sym (both_times i low))))
        (λ (to : one ≤ two). omega arith)
        (cases_lt two one))
        (cases_lt one two)

    constants_below : (row.affine.constant +ℤ other.affine.constant) <ℤ pos 0
    constants_below =
        let k = row.affine.constant in
        let l = other.affine.constant in
        let times : pos 0 ≤ℤ pos p = omega (arith, ints) in
        let others : pos 0 ≤ℤ pos q = omega (arith, ints) in
        let left = mul_le (pos p) (pos first.divisor *ℤ k) a.constant times first.at_most in
        let right = mul_le (pos q) (pos second.divisor *ℤ l) b.constant others second.at_most in
        let one_k = one_times k in
        let two_l = two_times l in
        let same : pos two *ℤ l ≡ pos one *ℤ l = ap (λ n. pos n *ℤ l) (sym same_times) in
        let sum = mul_add (pos one) k l in
        let below = constants in
        by_lt_z (k +ℤ l) (pos 0)
        (λ less. less)
        (λ from. absurd (let up = natural one (k +ℤ l) from in omega (arith, ints)))

    opposed : AreOpposed row other
    opposed = record {
      negatives = λ i low. let same = same_part i low in omega (arith, ints);
      constants = constants_below;
    }

clash_of : (a b : Affine) (kind other : RowKind) → Cancel a b → IsRowOf a kind → IsRowOf b other → Clash kind other
clash_of a b Never Always cancels is too = tt
clash_of a b Never Never cancels is too = tt
clash_of a b Never (Kept other) cancels is too = tt
clash_of a b Always Never cancels is too = tt
clash_of a b (Kept row) Never cancels is too = tt
clash_of a b Always Always cancels is too = not_both_always a b cancels is.1 too.1
clash_of a b Always (Kept other) cancels is too = no_row b other too (second_constant a b cancels is.0)
clash_of a b (Kept row) Always cancels is too = no_row a row is (first_constant a b cancels too.0)
clash_of a b (Kept row) (Kept other) cancels is too = opposed a b cancels row other is too

-- the rows of functions that cancel clash
pub clash : (a b : Affine) → Cancel a b → Clash (row_kind_of a) (row_kind_of b)
clash a b cancels = clash_of a b (row_kind_of a) (row_kind_of b) cancels (row_kind_is a) (row_kind_is b)
