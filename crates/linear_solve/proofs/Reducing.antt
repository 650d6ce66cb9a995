-- Combinations whose factors are divided by a common divisor: the same rows, of smaller numbers.
use Rattle.std.proofs.Common.{◌≡◌, ℕ, zero, suc, ◌*◌, ◌<◌, ◌≤◌, ◌^◌, ℤ, pos, negsuc, neg_ℤ, ◌+ℤ◌, ◌*ℤ◌, sym, ap, ◌∙◌, arith}
use Rattle.std.proofs.lemmas.Int.{ints}
use Rattle.std.proofs.Math.Nat.{mul-le-mul_right}
use Rattle.std.proofs.Common.{mul-pos}
use Rattle.linear_cons.specs.declared.affine.Affine.{Affine}
use Rattle.linear_cons.specs.declared.row.Row.{Row}
use Rattle.linear_cons.specs.declared.row.RowKind.{RowKind}
use Rattle.linear_cons.specs.declared.row.RowKind.TheVariants.{Always, Never, Row as Kept}
use Rattle.linear_cons.specs.Functions.{MixedFits, NumbersFit, coefficient, mixed_of, multiple_of, sum_of}
use Rattle.linear_cons.specs.Numbers.{Fits128}
use Rattle.linear_cons.specs.Rows.{IsRowOf}
use Rattle.linear_cons.proofs.Places.{number_at_places}
use Rattle.linear_cons.proofs.Ring.{mul_add, mul_assoc, mul_commutes, mul_le, mul_lt, mul_nonnegative, mul_zero}
use Rattle.linear_solve.specs.Elimination.{MixtureFits, mixture, opposite}

-- every number of the second function is d times that of the first
pub record IsTimes (d : ℕ) (small whole : Affine) : Type 0 where
  pub coefficients : (i : ℕ) → i < 16 → coefficient whole i ≡ pos d *ℤ coefficient small i
  pub constants : whole.constant ≡ pos d *ℤ small.constant

-- a factor can be drawn out of a product
drawn : (a d b : ℤ) → a *ℤ (d *ℤ b) ≡ d *ℤ (a *ℤ b)
drawn a d b = sym (mul_assoc a d b) ∙ ap (λ t. t *ℤ b) (mul_commutes a d) ∙ mul_assoc d a b

-- a multiple by d times a factor is d times the multiple by the factor
pub times_multiple : (d : ℕ) (a : Affine) (by part : ℤ) → by ≡ pos d *ℤ part → IsTimes d (multiple_of a part) (multiple_of a by)
times_multiple d a by part is = record {
  coefficients = λ i low. rw (number_at_places, number_at_places, is) (drawn (coefficient a i) (pos d) part);
  constants = rw is (drawn a.constant (pos d) part);
}

pub times_sum : (d : ℕ) (a b c e : Affine) → IsTimes d a b → IsTimes d c e → IsTimes d (sum_of a c) (sum_of b e)
times_sum d a b c e first second = record {
  coefficients = λ i low. let p = first.coefficients i low in let q = second.coefficients i low in
      rw (number_at_places, number_at_places, p, q) (sym (mul_add (pos d) (coefficient a i) (coefficient c i)));
  constants = let p = first.constants in let q = second.constants in rw (p, q) (sym (mul_add (pos d) a.constant c.constant));
}

-- a number fits where its product with a number above 0 does
fits_part : (d : ℕ) (z : ℤ) → 0 < d → Fits128 (pos d *ℤ z) → Fits128 z
fits_part d (pos n) positive fits = let p : 1 * n ≤ d * n = mul-le-mul_right n positive in record { sfits = omega (arith, p, fits.sfits) }
fits_part d (negsuc n) positive fits =
    let p : 1 * suc n ≤ d * suc n = mul-le-mul_right (suc n) positive in
    let q = negative_small (d * suc n) fits in
    record { sfits = omega (arith, p, q) }
  where
    negative_small : (m : ℕ) → Fits128 (neg_ℤ (pos m)) → m ≤ 2 ^ 127
    negative_small zero f = omega arith
    negative_small (suc m) f = omega (arith, f.sfits)

pub numbers_part : (d : ℕ) (small whole : Affine) → 0 < d → IsTimes d small whole → NumbersFit whole → NumbersFit small
numbers_part d small whole positive times fit = record {
  coefficients = λ i low. fits_part d (coefficient small i) positive (rw (← times.coefficients i low) (fit.coefficients i low));
  constants = fits_part d small.constant positive (rw (← times.constants) fit.constants);
}

-- what is a row of the smaller function is one of the other
pub kind_times : (d : ℕ) (small whole : Affine) → 0 < d → IsTimes d small whole → (kind : RowKind) → IsRowOf small kind → IsRowOf whole kind
kind_times d small whole positive times Always is = (
  λ i low. times.coefficients i low ∙ ap (λ t. pos d *ℤ t) (is.0 i low) ∙ mul_zero (pos d),
  rw times.constants (mul_nonnegative (pos d) small.constant (omega (arith, ints)) is.1),
)
kind_times d small whole positive times Never is = (
  λ i low. times.coefficients i low ∙ ap (λ t. pos d *ℤ t) (is.0 i low) ∙ mul_zero (pos d),
  (let p = mul_lt (pos d) small.constant (pos 0) (omega (arith, ints)) is.1 in let q = mul_zero (pos d) in let e = times.constants in omega (arith, ints, p, q, e)),
)
kind_times d small whole positive times (Kept row) is = record {
  divisor = d * is.divisor;
  positive = mul-pos positive is.positive;
  places = is.places;
  coefficients = λ i low. times.coefficients i low ∙ ap (λ t. pos d *ℤ t) (is.coefficients i low) ∙ sym (mul_assoc (pos d) (pos is.divisor) (coefficient row.affine i));
  at_most = let p = mul_le (pos d) (pos is.divisor *ℤ row.affine.constant) small.constant (omega (arith, ints)) is.at_most in
      let e = times.constants in let m = mul_assoc (pos d) (pos is.divisor) row.affine.constant in omega (arith, ints, p, e, m);
  below_next = let p = mul_lt (pos d) small.constant (pos is.divisor *ℤ (row.affine.constant +ℤ pos 1)) (omega (arith, ints)) is.below_next in
      let e = times.constants in let m = mul_assoc (pos d) (pos is.divisor) (row.affine.constant +ℤ pos 1) in omega (arith, ints, p, e, m);
}

-- ---- the combination of two rows with the factors divided by d

-- it is the d-th part of the combination
pub mixture_times : (lower upper : Row) (place d : ℕ) (by part own : ℤ) → by ≡ opposite (coefficient upper.affine place) → by ≡ pos d *ℤ part → coefficient lower.affine place ≡ pos d *ℤ own →
    IsTimes d (mixed_of lower.affine part upper.affine own) (mixture lower upper place)
mixture_times lower upper place d by part own is first second =
    times_sum d (multiple_of lower.affine part) (multiple_of lower.affine (opposite (coefficient upper.affine place))) (multiple_of upper.affine own) (multiple_of upper.affine (coefficient lower.affine place))
    (times_multiple d lower.affine (opposite (coefficient upper.affine place)) part (sym is ∙ first)) (times_multiple d upper.affine (coefficient lower.affine place) own second)

-- where its numbers do not fit, those of the combination do not
pub mixed_unfit : (lower upper : Row) (place d : ℕ) (by part own : ℤ) → 0 < d → by ≡ opposite (coefficient upper.affine place) → by ≡ pos d *ℤ part → coefficient lower.affine place ≡ pos d *ℤ own →
    ¬ MixedFits lower.affine part upper.affine own → ¬ MixtureFits lower upper place
mixed_unfit lower upper place d by part own positive is first second none fits = none (record {
  first = numbers_part d (multiple_of lower.affine part) (multiple_of lower.affine (opposite (coefficient upper.affine place))) positive (times_multiple d lower.affine (opposite (coefficient upper.affine place)) part (sym is ∙ first)) fits.first;
  second = numbers_part d (multiple_of upper.affine own) (multiple_of upper.affine (coefficient lower.affine place)) positive (times_multiple d upper.affine (coefficient lower.affine place) own second) fits.second;
  sums = numbers_part d (mixed_of lower.affine part upper.affine own) (mixture lower upper place) positive (mixture_times lower upper place d by part own is first second) fits.sums;
})
