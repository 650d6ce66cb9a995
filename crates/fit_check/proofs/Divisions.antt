-- A quotient of a number of 32 bits is one, but for that of the least by -1; and so is what a division leaves.
use Rattle.std.proofs.Common.{◌≡◌, ℕ, zero, suc, ◌<◌, ◌*◌, ◌/◌, ◌%◌, ◌≤◌, ℤ, pos, negsuc, neg_ℤ, ◌-ℤ◌, ◌*ℤ◌, ◌≤ℤ◌, int_eq, false, unsigned_abs, int_div, int_rem, refl, sym, ap, ◌∙◌, subst, arith}
use Rattle.std.proofs.Math.Nat.{div-mul-le_self, le_refl, mod-le, mul-le-mul}
use Rattle.std.proofs.lemmas.Int.{ints}
use Rattle.step_meaning.specs.Outcome.{Truncates}
use Rattle.step_meaning.proofs.Quotients.{left_is, only, truncates}
use Rattle.int_fit.specs.Fitting.{FitsInt}

-- ---- sizes

size_negated : (n : ℕ) → unsigned_abs (neg_ℤ (pos n)) ≡ n
size_negated zero = refl
size_negated (suc n) = refl

size_of_quotient : (a b : ℤ) → unsigned_abs (int_div a b) ≡ unsigned_abs a / unsigned_abs b
size_of_quotient (pos a) (pos b) = refl
size_of_quotient (pos a) (negsuc b) = size_negated (a / suc b)
size_of_quotient (negsuc a) (pos b) = size_negated (suc a / b)
size_of_quotient (negsuc a) (negsuc b) = refl

size_of_rest : (a b : ℤ) → unsigned_abs (int_rem a b) ≡ unsigned_abs a % unsigned_abs b
size_of_rest (pos a) b = refl
size_of_rest (negsuc a) b = size_negated (suc a % unsigned_abs b)

small_size : (z : ℤ) → unsigned_abs z ≤ 2147483647 → FitsInt z
small_size (pos n) small = record { sfits = omega (arith, ints) }
small_size (negsuc n) small = record { sfits = omega (arith, ints) }

size_bounded : (z : ℤ) → FitsInt z → unsigned_abs z ≤ 2147483648
size_bounded (pos n) fits = let small = fits.sfits in omega arith
size_bounded (negsuc n) fits = let small = fits.sfits in omega arith

-- ---- by a divisor that isn't 0

module _ (a b q : ℤ) (is : Truncates a b q) where
  divisor : b ≡ pos 0 → ⊥
  divisor nought = let small = is.small in let none : unsigned_abs b ≡ 0 = ap unsigned_abs nought in omega arith

  is_quotient : q ≡ int_div a b
  is_quotient = only a b q (int_div a b) is (truncates a b divisor)

  -- the quotient times the divisor is no larger than what is divided
  multiple_bounded : unsigned_abs q * unsigned_abs b ≤ unsigned_abs a
  multiple_bounded =
      subst (λ n. n * unsigned_abs b ≤ unsigned_abs a) (sym (ap unsigned_abs is_quotient ∙ size_of_quotient a b)) (div-mul-le_self (unsigned_abs a) (unsigned_abs b))

  -- and neither is what is left
  rest_bounded : unsigned_abs (a -ℤ q *ℤ b) ≤ unsigned_abs a
  rest_bounded =
      subst (λ n. n ≤ unsigned_abs a) (sym (ap (λ p. unsigned_abs (a -ℤ p *ℤ b)) is_quotient ∙ ap unsigned_abs (left_is a b) ∙ size_of_rest a b)) (mod-le (unsigned_abs a) (unsigned_abs b))

  halved : FitsInt a → 2 ≤ unsigned_abs b → FitsInt q
  halved fits far =
      let most = size_bounded a fits in
      let twice : unsigned_abs q * 2 ≤ unsigned_abs q * unsigned_abs b = mul-le-mul (le_refl (unsigned_abs q)) far in
      let bounded = multiple_bounded in small_size q (omega (arith, most, twice, bounded))

between_nought : (a r : ℤ) → FitsInt a → (pos 0 ≤ℤ a → pos 0 ≤ℤ r) × (a ≤ℤ pos 0 → r ≤ℤ pos 0) → unsigned_abs r ≤ unsigned_abs a → FitsInt r
between_nought (pos n) r fits sign small = let above = sign.0 (omega (arith, ints)) in let most = fits.sfits in small_size r (omega (arith, ints))
between_nought (negsuc n) (pos zero) fits sign small = record { sfits = omega arith }
between_nought (negsuc n) (pos (suc r)) fits sign small = let below = sign.1 (omega (arith, ints)) in absurd (omega (arith, ints))
between_nought (negsuc n) (negsuc r) fits sign small = let most = fits.sfits in record { sfits = omega arith }

pub rest_fits : (a b q : ℤ) → Truncates a b q → FitsInt a → FitsInt (a -ℤ q *ℤ b)
rest_fits a b q is fits = between_nought a (a -ℤ q *ℤ b) fits is.sign (rest_bounded a b q is)

pub quotient_fits : (a b q : ℤ) → Truncates a b q → FitsInt a → int_eq b (negsuc 0) ≡ false → FitsInt q
quotient_fits a (pos zero) q is fits other = absurd (divisor a (pos zero) q is refl)
quotient_fits a (pos (suc zero)) q is fits other = let small = is.small in subst FitsInt (omega (arith, ints)) fits
quotient_fits a (pos (suc (suc k))) q is fits other = halved a (pos (suc (suc k))) q is fits (omega arith)
quotient_fits a (negsuc zero) q is fits other = absurd (cc)
quotient_fits a (negsuc (suc k)) q is fits other = halved a (negsuc (suc k)) q is fits (omega arith)

-- by -1
pub negated : (a b q : ℤ) → Truncates a b q → b ≡ negsuc 0 → q ≡ neg_ℤ a
negated a b q is one = let small = subst (λ d. unsigned_abs (a -ℤ q *ℤ d) < unsigned_abs d) one is.small in omega (arith, ints)
