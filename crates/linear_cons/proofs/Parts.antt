-- A number added to a function, and a function put in for a variable that doesn't occur.
use Rattle.std.proofs.Common.{◌≡◌, ◌≢◌, ℕ, ◌<◌, ℤ, pos, ◌+ℤ◌, true, false, eqb, length, sym, ap, ◌∙◌, arith, lit<, ⊎_elim}
use Rattle.std.proofs.lemmas.Int.{ints}
use Rattle.std.proofs.lemmas.Bool.Decides.{eqb_tells}
use Rattle.linear_cons.specs.Numbers.{Fits128}
use Rattle.linear_cons.specs.Functions.{NumbersFit, SubstitutionFits, coefficient, constant_of, products_added, substituted, sum_of}
use Rattle.linear_cons.specs.declared.affine.Affine.{Affine}
use Rattle.linear_cons.proofs.Forms.{affine_same}
use Rattle.linear_cons.proofs.Places.{length-at_places, number_at-clear, number_at_places}
use Rattle.linear_cons.proofs.Ring.{add_zero, mul_zero}

nought_fits : Fits128 (pos 0)
nought_fits = record { sfits = lit< tt }

-- ---- a number added

more_coefficient : (a : Affine) (n : ℤ) (i : ℕ) → i < 16 → coefficient (sum_of a (constant_of n)) i ≡ coefficient a i
more_coefficient a n i h = rw (number_at_places, number_at_places) (add_zero (coefficient a i))

pub more_is : (a more : Affine) (n : ℤ) → length a.coef ≡ 16 → more.coef ≡ a.coef → more.constant ≡ a.constant +ℤ n → more ≡ sum_of a (constant_of n)
more_is a more n long coefs constant =
    affine_same more (sum_of a (constant_of n)) (ap length coefs ∙ long) (length-at_places _)
    (λ i h. rw coefs (sym (more_coefficient a n i h))) constant

pub more_fits : (a : Affine) (n : ℤ) → ((i : ℕ) → i < 16 → Fits128 (coefficient a i)) → Fits128 (a.constant +ℤ n) → NumbersFit (sum_of a (constant_of n))
more_fits a n fit constant = record { coefficients = λ i h. rw (more_coefficient a n i h) (fit i h); constants = constant }

-- ---- a variable that doesn't occur

module _ (a : Affine) (place : ℕ) (by : Affine) (none : coefficient a place ≡ pos 0) where
  no_product : (i : ℕ) → i < 16 → coefficient (products_added a place by) i ≡ pos 0
  no_product i h = rw (number_at_places, none) (mul_zero (coefficient by i))

  no_constant : (products_added a place by).constant ≡ pos 0
  no_constant = rw none (mul_zero by.constant)

  kept_coefficient : (i : ℕ) → i < 16 → coefficient (substituted a place by) i ≡ coefficient a i
  kept_coefficient i h =
      rw (number_at_places, no_product i h, number_at-clear a.coef place i) (⊎_elim
      (λ (same : (eqb i place ≡ true) × (i ≡ place)). rw (same.0, same.1, none) (add_zero (pos 0)))
      (λ (apart : (eqb i place ≡ false) × (i ≢ place)). rw apart.0 (add_zero (coefficient a i)))
      (eqb_tells i place))

  kept_constant : (substituted a place by).constant ≡ a.constant
  kept_constant = rw none (let nought = mul_zero by.constant in omega (arith, ints))

  pub kept_is : length a.coef ≡ 16 → a ≡ substituted a place by
  kept_is long = affine_same a (substituted a place by) long (length-at_places _) (λ i h. sym (kept_coefficient i h)) (sym kept_constant)

  pub kept_fits : NumbersFit a → SubstitutionFits a place by
  kept_fits fit = record {
    products = record { coefficients = λ i h. rw (no_product i h) nought_fits; constants = rw no_constant nought_fits };
    sums = record { coefficients = λ i h. rw (kept_coefficient i h) (fit.coefficients i h); constants = rw kept_constant fit.constants };
  }
