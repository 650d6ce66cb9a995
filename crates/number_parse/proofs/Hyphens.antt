-- Numbers behind hyphens.
use Rattle.std.proofs.Common.{◌≡◌, inl, inr, ◌∙◌, ℕ, zero, suc, ◌+◌, ◌%◌, ◌^◌, ◌<◌, ◌≤◌, ℤ, pos, neg_ℤ, ◌-ℤ◌, unsigned_abs, List, [], ◌∷◌, ◌++◌, refl, sym, ap, arith}
use Rattle.std.specs.Int.{w128}
use Rattle.std.proofs.lemmas.Int.{fits_signed_from_abs, ints}
use Rattle.std.specs.Prelude.{FitsSigned}
use Rattle.line_text.specs.Numeral.{numeral}
use Rattle.number_parse.specs.Signed.{IsNumberText}
use Rattle.line_text.proofs.Numerals.{numeral_by_steps}

abbrev BeginsWithDigit : List ℕ → Type 0
BeginsWithDigit ds = (x : ℕ) × (more : List ℕ) × (ds ≡ x ∷ more) × (48 ≤ x)

digit_first : (n : ℕ) → BeginsWithDigit (numeral n)
digit_first = numeral_by_steps (λ n ds. BeginsWithDigit ds)
    (λ n small. (48 + n, [], refl, omega arith))
    (λ n ds large is. (is.0, is.1 ++ (48 + n % 10) ∷ [], ap (λ l. l ++ (48 + n % 10) ∷ []) is.2, is.3))

pub no_hyphen : (n : ℕ) (rest : List ℕ) → 45 ∷ rest ≡ numeral n → ⊥
no_hyphen n rest is = let first = digit_first n in let both : 45 ∷ rest ≡ first.0 ∷ first.1 = is ∙ first.2 in let same : 45 ≡ first.0 = cc in let low = first.3 in absurd (omega arith)

pub hyphen_or_digit : (n m : ℕ) → numeral n ≡ 45 ∷ numeral m → ⊥
hyphen_or_digit n m is = no_hyphen n (numeral m) (sym is)

pub abs_back : (n : ℕ) → unsigned_abs (neg_ℤ (pos n)) ≡ n
abs_back zero = refl
abs_back (suc n) = refl

pub fits_small : (z : ℤ) → unsigned_abs z < 2 ^ 63 → FitsSigned w128 z
fits_small z small = fits_signed_from_abs w128 z (omega arith)

pub nought_less : (n : ℕ) → (pos 0 -ℤ pos n) ≡ neg_ℤ (pos n)
nought_less n = omega (arith, ints)

-- the text that begins with a hyphen, and that which doesn't
pub behind : (rest : List ℕ) (z : ℤ) → IsNumberText (45 ∷ rest) z → (n : ℕ) × (rest ≡ numeral n) × (z ≡ neg_ℤ (pos n))
behind rest z (inl plain) = absurd (no_hyphen plain.0 rest plain.1)
behind rest z (inr (n, is, value)) = (n, (let same : rest ≡ numeral n = cc in same), value)

pub plain : (text : List ℕ) (z : ℤ) → ((rest : List ℕ) → text ≡ 45 ∷ rest → ⊥) → IsNumberText text z → (n : ℕ) × (text ≡ numeral n) × (z ≡ pos n)
plain text z none (inl own) = own
plain text z none (inr (n, is, value)) = absurd (none (numeral n) is)
