-- Functions over the first variables: what is made of such is such.
use Rattle.std.proofs.Common.{◌≡◌, ◌≢◌, ℕ, ◌<◌, ◌≤◌, true, false, eqb, ℤ, pos, negsuc, ◌+ℤ◌, ◌-ℤ◌, ◌*ℤ◌, ⊎_elim, refl, sym, ◌∙◌, arith}
use Rattle.std.proofs.lemmas.Bool.{cases_lt}
use Rattle.std.proofs.lemmas.Bool.Decides.{eqb_tells}
use Rattle.std.proofs.lemmas.Int.{by_lt_z, ints}
use Rattle.std.proofs.lemmas.List.{get_or_past}
use Rattle.linear_cons.specs.declared.affine.Affine.{Affine}
use Rattle.linear_cons.specs.Functions.{IsOver, IsQuotient, coefficient, complement_of, constant_of, difference_of, multiple_of, products_added, substituted, sum_of, without}
use Rattle.linear_cons.specs.Numbers.{at_places}
use Rattle.linear_cons.proofs.Places.{length-at_places, number_at-clear, number_at_places}
use Rattle.linear_cons.proofs.Ring.{mul_lt, mul_zero, zero_mul}

-- a product is 0 where the one factor is positive and the result is 0
pub other_zero : (d : ℕ) (z : ℤ) → 0 < d → pos d *ℤ z ≡ pos 0 → z ≡ pos 0
other_zero d z some is =
    let nothing = mul_zero (pos d) in
    by_lt_z z (pos 0)
    (λ less. absurd (let below = mul_lt (pos d) z (pos 0) (omega (arith, ints)) less in omega (arith, ints)))
    (λ from. by_lt_z (pos 0) z
    (λ more. absurd (let above = mul_lt (pos d) (pos 0) z (omega (arith, ints)) more in omega (arith, ints)))
    (λ at_most. omega (arith, ints)))

module _ (vars : ℕ) where
  pub over_places : (f : ℕ → ℤ) (c : ℤ) → ((place : ℕ) → place < 16 → vars ≤ place → f place ≡ pos 0)
      → IsOver vars (record { coef = at_places f; constant = c })
  over_places f c none = record {
    places = length-at_places f;
    past = λ place high. ⊎_elim
        (λ (low : place < 16). number_at_places f place low ∙ none place low high)
        (λ (outside : 16 ≤ place). get_or_past (at_places f) place (pos 0) (let long = length-at_places f in omega arith))
        (cases_lt place 16);
  }

  pub over_constant : (z : ℤ) → IsOver vars (constant_of z)
  over_constant z = over_places (λ i. pos 0) z (λ place low high. refl)

  pub over_sum : (a b : Affine) → IsOver vars a → IsOver vars b → IsOver vars (sum_of a b)
  over_sum a b own other =
      over_places (λ i. coefficient a i +ℤ coefficient b i) (a.constant +ℤ b.constant)
      (λ place low high. rw (own.past place high, other.past place high) refl)

  pub over_multiple : (a : Affine) (by : ℤ) → IsOver vars a → IsOver vars (multiple_of a by)
  over_multiple a by own = over_places (λ i. coefficient a i *ℤ by) (a.constant *ℤ by) (λ place low high. rw (own.past place high) (zero_mul by))

  pub over_put : (a : Affine) (x : ℕ) (v : Affine) → IsOver vars a → IsOver vars v → IsOver vars (substituted a x v)
  over_put a x v own other =
      over_places (λ i. coefficient (without a x) i +ℤ coefficient (products_added a x v) i)
      ((without a x).constant +ℤ (products_added a x v).constant)
      (λ place low high.
      let products = (over_multiple v (coefficient a x) other).past place high in
      let rest : coefficient (without a x) place ≡ pos 0 = number_at-clear a.coef x place ∙ ⊎_elim
      (λ (same : (eqb place x ≡ true) × (place ≡ x)). rw same.0 refl)
      (λ (apart : (eqb place x ≡ false) × (place ≢ x)). rw apart.0 (own.past place high))
      (eqb_tells place x) in
      omega (arith, ints))

  pub over_quotient : (a q : Affine) → IsQuotient a q → IsOver vars a → IsOver vars q
  over_quotient a q by own = record {
    places = by.places;
    past = λ place high. ⊎_elim
        (λ (low : place < 16). other_zero by.divisor (coefficient q place) by.positive (sym (by.coefficients place low) ∙ own.past place high))
        (λ (outside : 16 ≤ place). get_or_past q.coef place (pos 0) (let long = by.places in omega arith))
        (cases_lt place 16);
  }

  pub over_difference : (a b : Affine) → IsOver vars a → IsOver vars b → IsOver vars (difference_of a b)
  over_difference a b own other =
      over_places (λ i. coefficient a i -ℤ coefficient b i) (a.constant -ℤ b.constant)
      (λ place low high. rw (own.past place high, other.past place high) refl)

  pub over_complement : (a : Affine) → IsOver vars a → IsOver vars (complement_of a)
  over_complement a own = over_difference (constant_of (negsuc 0)) a (over_constant (negsuc 0)) own
