-- The sum of two multiples, place by place.
use Rattle.std.proofs.Common.{◌≡◌, ℕ, ◌<◌, ℤ, pos, ◌+ℤ◌, ◌*ℤ◌, length, ap, refl, subst, sym, ◌∙◌}
use Rattle.linear_cons.specs.declared.affine.Affine.{Affine}
use Rattle.linear_cons.specs.Functions.{MixedFits, NumbersFit, ProductsFit, SubstitutionFits, coefficient, mixed_of, multiple_of, substituted, sum_of, without}
use Rattle.linear_cons.proofs.Forms.{affine_same}
use Rattle.linear_cons.proofs.Places.{FilledBelow, length-at_places, number_at_places}
use Rattle.linear_cons.proofs.Ring.{mul_one}

-- the number of the sum at a place
abbrev pub mixed_number_at : Affine → ℤ → Affine → ℤ → ℕ → ℤ
mixed_number_at a by b times i = coefficient a i *ℤ by +ℤ coefficient b i *ℤ times

mixed_coefficient : (a : Affine) (by : ℤ) (b : Affine) (times : ℤ) (i : ℕ) → i < 16 → coefficient (mixed_of a by b times) i ≡ mixed_number_at a by b times i
mixed_coefficient a by b times i low = rw (number_at_places, number_at_places, number_at_places) refl

-- a sum of multiples fits exactly where it does at each place
pub parts_fit : (a : Affine) (by : ℤ) (b : Affine) (times : ℤ) → ((i : ℕ) → i < 16 → ProductsFit (coefficient a i) by (coefficient b i) times) → ProductsFit a.constant by b.constant times → MixedFits a by b times
parts_fit a by b times parts constants = record {
  first = record { coefficients = λ i low. rw number_at_places (parts i low).first; constants = constants.first };
  second = record { coefficients = λ i low. rw number_at_places (parts i low).second; constants = constants.second };
  sums = record { coefficients = λ i low. rw (mixed_coefficient a by b times i low) (parts i low).together; constants = constants.together };
}

pub fit_parts : (a : Affine) (by : ℤ) (b : Affine) (times : ℤ) → MixedFits a by b times → (i : ℕ) → i < 16 → ProductsFit (coefficient a i) by (coefficient b i) times
fit_parts a by b times fits i low = record {
  first = rw number_at_places at (fits.first.coefficients i low);
  second = rw number_at_places at (fits.second.coefficients i low);
  together = rw (mixed_coefficient a by b times i low) at (fits.sums.coefficients i low);
}

pub fit_constants : (a : Affine) (by : ℤ) (b : Affine) (times : ℤ) → MixedFits a by b times → ProductsFit a.constant by b.constant times
fit_constants a by b times fits = record { first = fits.first.constants; second = fits.second.constants; together = fits.sums.constants }

-- a function with the numbers of the sum is the sum
pub mixed_is : (a : Affine) (by : ℤ) (b : Affine) (times : ℤ) (sum : Affine) → FilledBelow (mixed_number_at a by b times) 16 sum.coef → sum.constant ≡ a.constant *ℤ by +ℤ b.constant *ℤ times → sum ≡ mixed_of a by b times
mixed_is a by b times sum filled constant =
    affine_same sum (mixed_of a by b times) filled.long (length-at_places _)
    (λ i low. filled.numbers i low ∙ sym (mixed_coefficient a by b times i low)) constant

-- ---- a function put in for a variable

once : (a : Affine) → length a.coef ≡ 16 → multiple_of a (pos 1) ≡ a
once a long = affine_same (multiple_of a (pos 1)) a (length-at_places _) long (λ i low. rw number_at_places (mul_one (coefficient a i))) (mul_one a.constant)

-- what is left of the function, once, and the products are the function with the other put in
pub put_in : (a by : Affine) (place : ℕ) → length (without a place).coef ≡ 16 → mixed_of (without a place) (pos 1) by (coefficient a place) ≡ substituted a place by
put_in a by place long = ap (λ (kept : Affine). sum_of kept (multiple_of by (coefficient a place))) (once (without a place) long)

pub fits_put_in : (a by : Affine) (place : ℕ) → length (without a place).coef ≡ 16 → MixedFits (without a place) (pos 1) by (coefficient a place) → SubstitutionFits a place by
fits_put_in a by place long fits = record { products = fits.second; sums = subst NumbersFit (put_in a by place long) fits.sums }

pub put_in_fits : (a by : Affine) (place : ℕ) → length (without a place).coef ≡ 16 → NumbersFit (without a place)
    → SubstitutionFits a place by → MixedFits (without a place) (pos 1) by (coefficient a place)
put_in_fits a by place long rest fits = record {
  first = subst NumbersFit (sym (once (without a place) long)) rest;
  second = fits.products;
  sums = subst NumbersFit (sym (put_in a by place long)) fits.sums;
}
