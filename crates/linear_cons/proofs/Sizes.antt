-- Sizes of numbers: when the numbers of combined functions fit 128 bits.
use Rattle.std.proofs.Common.{◌≡◌, ◌≢◌, ℕ, zero, suc, ◌+◌, ◌*◌, ◌^◌, ◌<◌, ◌≤◌, true, false, eqb, ℤ, pos, negsuc, ◌+ℤ◌, ◌*ℤ◌, ◌≤ℤ◌, ⊎_elim, add-one, arith, neg_ℤ, refl, unsigned_abs}
use Rattle.std.proofs.lemmas.Bool.{cases_lt}
use Rattle.std.proofs.lemmas.Bool.Decides.{eqb_tells}
use Rattle.std.proofs.lemmas.Int.{by_lt_z, fits_signed_from_abs, ints, unsigned_abs-mul}
use Rattle.std.proofs.Math.Nat.{le_refl, mul-le-mul}
use Rattle.std.specs.Int.{w128}
use native.Mathlib.Numerals.{unary_clauses}
use Rattle.linear_cons.specs.Functions.{IsQuotient, NumbersFit, SubstitutionFits, coefficient, complement_of, constant_of, difference_of, multiple_of, products_added, substituted, sum_of, without}
use Rattle.linear_cons.specs.Sizes.{SizesAtMost, sizes_below, total_size}
use Rattle.linear_cons.specs.declared.affine.Affine.{Affine}
use Rattle.linear_cons.proofs.Places.{number_at-clear, number_at_places}
use Rattle.linear_cons.proofs.Ring.{mul_commutes, mul_le, mul_one, neg_mul}

pub sizes_fit : (m : ℕ) (a : Affine) → m < 2 ^ 127 → SizesAtMost m a → NumbersFit a
sizes_fit m a small sizes = record {
  coefficients = λ i h. let size = sizes.coefficients i h in fits_signed_from_abs w128 (coefficient a i) (omega arith);
  constants = let size = sizes.constants in fits_signed_from_abs w128 a.constant (omega arith);
}

pub sizes_sum : (m n : ℕ) (a b : Affine) → SizesAtMost m a → SizesAtMost n b → SizesAtMost (m + n) (sum_of a b)
sizes_sum m n a b own other = record {
  coefficients = λ i h. let p = own.coefficients i h in let q = other.coefficients i h in rw number_at_places (omega (arith, ints));
  constants = let p = own.constants in let q = other.constants in omega (arith, ints);
}

pub sizes_difference : (m n : ℕ) (a b : Affine) → SizesAtMost m a → SizesAtMost n b → SizesAtMost (m + n) (difference_of a b)
sizes_difference m n a b own other = record {
  coefficients = λ i h. let p = own.coefficients i h in let q = other.coefficients i h in rw number_at_places (omega (arith, ints));
  constants = let p = own.constants in let q = other.constants in omega (arith, ints);
}

pub sizes_multiple : (m n : ℕ) (a : Affine) (by : ℤ) → SizesAtMost m a → unsigned_abs by ≤ n → SizesAtMost (m * n) (multiple_of a by)
sizes_multiple m n a by own small = record {
  coefficients = λ i h. rw (number_at_places, unsigned_abs-mul) (mul-le-mul (own.coefficients i h) small);
  constants = rw unsigned_abs-mul (mul-le-mul own.constants small);
}

-- division by a positive number makes no number greater
pub sizes_quotient : (m : ℕ) (a q : Affine) → IsQuotient a q → SizesAtMost m a → SizesAtMost m q
sizes_quotient m a q by own = record {
  coefficients = λ i h. coefficient_size i h;
  constants = constant_size;
}
  where
    coefficient_size : (i : ℕ) → i < 16 → unsigned_abs (coefficient q i) ≤ m
    coefficient_size i h =
        let size = own.coefficients i h in
        let whole : unsigned_abs (coefficient a i) ≡ by.divisor * unsigned_abs (coefficient q i) = rw (by.coefficients i h, unsigned_abs-mul) refl in
        let positive = by.positive in
        let p : 1 * unsigned_abs (coefficient q i) ≤ by.divisor * unsigned_abs (coefficient q i) = mul-le-mul positive (le_refl _) in
        omega arith

    constant_size : unsigned_abs q.constant ≤ m
    constant_size =
        let size = own.constants in
        let positive = by.positive in
        let one : pos 1 ≤ℤ pos by.divisor = omega (arith, ints) in
        let low = by.at_most in
        let high = by.below_next in
        by_lt_z q.constant (pos 0)
        (λ less.
        let below : (q.constant +ℤ pos 1) ≤ℤ pos 0 = omega (arith, ints) in
        let turned : (neg_ℤ (q.constant +ℤ pos 1) *ℤ pos 1) ≤ℤ (neg_ℤ (q.constant +ℤ pos 1) *ℤ pos by.divisor) = mul_le (neg_ℤ (q.constant +ℤ pos 1)) (pos 1) (pos by.divisor) (omega (arith, ints)) one in
        let spread = rw (mul_one, neg_mul, mul_commutes (q.constant +ℤ pos 1) (pos by.divisor)) at turned in
        omega (arith, ints))
        (λ from.
        let grown : (q.constant *ℤ pos 1) ≤ℤ (q.constant *ℤ pos by.divisor) = mul_le q.constant (pos 1) (pos by.divisor) from one in
        let spread = rw (mul_one, mul_commutes q.constant (pos by.divisor)) at grown in
        omega (arith, ints))

pub sizes_grown : (m n : ℕ) (a : Affine) → m ≤ n → SizesAtMost m a → SizesAtMost n a
sizes_grown m n a le sizes = record {
  coefficients = λ i h. let size = sizes.coefficients i h in omega arith;
  constants = let size = sizes.constants in omega arith;
}

pub sizes_constant : (z : ℤ) (n : ℕ) → unsigned_abs z ≤ n → SizesAtMost n (constant_of z)
sizes_constant z n small = record {
  coefficients = λ i h. rw number_at_places (omega arith);
  constants = small;
}

pub sizes_without : (m : ℕ) (a : Affine) (place : ℕ) → SizesAtMost m a → SizesAtMost m (without a place)
sizes_without m a place own = record {
  coefficients = λ i h. rw (number_at-clear a.coef place i) (⊎_elim
      (λ (same : (eqb i place ≡ true) × (i ≡ place)). rw same.0 (omega arith))
      (λ (apart : (eqb i place ≡ false) × (i ≢ place)). rw apart.0 (own.coefficients i h))
      (eqb_tells i place));
  constants = own.constants;
}

pub sizes_complement : (n : ℕ) (a : Affine) → SizesAtMost n a → SizesAtMost (1 + n) (complement_of a)
sizes_complement n a own = sizes_difference 1 n (constant_of (negsuc 0)) a (sizes_constant (negsuc 0) 1 (omega arith)) own

-- ---- sums of sizes, and substitutions

pub sizes_none : (e : Affine) → sizes_below 0 e ≡ 0
unfolding sizes_below
sizes_none e = refl

pub sizes_more : (n : ℕ) (e : Affine) → sizes_below (n + 1) e ≡ sizes_below n e + unsigned_abs (coefficient e n)
unfolding sizes_below
sizes_more n e = simp unary_clauses refl

below_sum : (e : Affine) (n i : ℕ) → i < n → unsigned_abs (coefficient e i) ≤ sizes_below n e
below_sum e zero i low = absurd (omega arith)
below_sum e (suc n) i low = rw (← add-one n) (rw (sizes_more n e) (⊎_elim
    (λ (less : i < n). let before = below_sum e n i less in omega arith)
    (λ (last : n ≤ i). let same : i ≡ n = omega arith in rw same (omega arith))
    (cases_lt i n)))

pub total_sizes : (e : Affine) → SizesAtMost (total_size e) e
total_sizes e = record {
  coefficients = λ i h. let below = below_sum e 16 i h in omega arith;
  constants = omega arith;
}

-- the products that a substitution adds up, and its result, have numbers at most so many times as large
pub sizes_products : (m : ℕ) (e : Affine) (x : ℕ) (v : Affine) → x < 16 → SizesAtMost m e → SizesAtMost (total_size v * m) (products_added e x v)
sizes_products m e x v low own = sizes_multiple (total_size v) m v (coefficient e x) (total_sizes v) (own.coefficients x low)

pub sizes_substituted : (m : ℕ) (e : Affine) (x : ℕ) (v : Affine) → x < 16 → SizesAtMost m e → SizesAtMost (m + total_size v * m) (substituted e x v)
sizes_substituted m e x v low own = sizes_sum m (total_size v * m) (without e x) (products_added e x v) (sizes_without m e x own)
    (sizes_products m e x v low own)

-- a function of at most this size may have a value of a total size t put in, where 1 + t times the size is below 2^127
module _ (x : ℕ) (low : x < 16) (v : Affine) where
  pub substitution_fits : (n : ℕ) (a : Affine) → SizesAtMost n a → n + total_size v * n < 2 ^ 127 → SubstitutionFits a x v
  substitution_fits n a own small = record {
    products = sizes_fit (total_size v * n) (products_added a x v) (omega arith) (sizes_products n a x v low own);
    sums = sizes_fit (n + total_size v * n) (substituted a x v) small (sizes_substituted n a x v low own);
  }
