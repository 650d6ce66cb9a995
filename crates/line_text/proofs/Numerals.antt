-- Numerals: their digits one by one, reading them back, and that they are what std writes.
use Rattle.std.proofs.Common.{◌≡◌, ℕ, zero, suc, ◌+◌, ◌/◌, ◌%◌, ◌^◌, ◌<◌, ◌≤◌, true, false, ltb, List, [], ◌∷◌, ◌++◌, sym, refl, ap, ◌∙◌, subst, ⊎_elim, arith}
use Rattle.std.proofs.lemmas.Bool.{cases_lt}
use Rattle.std.proofs.lemmas.Bool.Decides.{nat_tests}
use Rattle.std.proofs.lemmas.Fmt.{decimal_digit, decimal_step_wide}
use Rattle.std.specs.Fmt.{decimal}
use Rattle.line_text.specs.Numeral.{numeral, numeral_within}

within_small : (digits n : ℕ) → n < 10 → numeral_within (suc digits) n ≡ (48 + n) ∷ []
unfolding numeral_within
within_small digits n small = let t : ltb n 10 ≡ true = grind (arith, nat_tests) in rw t refl

within_step : (digits n : ℕ) → 10 ≤ n → numeral_within (suc digits) n ≡ numeral_within digits (n / 10) ++ (48 + n % 10) ∷ []
unfolding numeral_within
within_step digits n large = let t : ltb n 10 ≡ false = grind (arith, nat_tests) in rw t refl

-- more room than the number's digits need changes nothing
within_same : (digits room n : ℕ) → n < digits → n < room → numeral_within digits n ≡ numeral_within room n
within_same zero room n p q = absurd (omega arith)
within_same (suc digits) zero n p q = absurd (omega arith)
within_same (suc digits) (suc room) n p q = ⊎_elim
    (λ (small : n < 10). within_small digits n small ∙ sym (within_small room n small))
    (λ (large : 10 ≤ n). within_step digits n large ∙ (ap (λ ds. ds ++ (48 + n % 10) ∷ [])
    (within_same digits room (n / 10) (omega arith) (omega arith)) ∙ sym (within_step room n large)))
    (cases_lt n 10)

pub numeral_small : (n : ℕ) → n < 10 → numeral n ≡ (48 + n) ∷ []
unfolding numeral
numeral_small n small = within_small n n small

pub numeral_step : (n : ℕ) → 10 ≤ n → numeral n ≡ numeral (n / 10) ++ (48 + n % 10) ∷ []
unfolding numeral
numeral_step n large =
    within_step n n large ∙ ap (λ ds. ds ++ (48 + n % 10) ∷ []) (within_same n (suc (n / 10)) (n / 10) (omega arith) (omega arith))

-- what holds of single digits, and of a numeral with one more digit, holds of each numeral
module _ (P : ℕ → List ℕ → Type 0) (one : (n : ℕ) → n < 10 → P n ((48 + n) ∷ [])) (more : (n : ℕ) (ds : List ℕ) → 10 ≤ n → P (n / 10) ds → P n (ds ++ (48 + n % 10) ∷ [])) where
  within_by_steps : (digits n : ℕ) → n < digits → P n (numeral_within digits n)
  within_by_steps zero n p = absurd (omega arith)
  within_by_steps (suc digits) n p = ⊎_elim
      (λ (small : n < 10). subst (P n) (sym (within_small digits n small)) (one n small))
      (λ (large : 10 ≤ n). subst (P n) (sym (within_step digits n large)) (more n _ large (within_by_steps digits (n / 10) (omega arith))))
      (cases_lt n 10)

  pub numeral_by_steps : (n : ℕ) → P n (numeral n)
  unfolding numeral
  numeral_by_steps n = within_by_steps (suc n) n (omega arith)

-- below 10 ^ 64 a numeral is what std writes
pub numeral_is_decimal : (n : ℕ) → n < 10 ^ 64 → numeral n ≡ decimal n
numeral_is_decimal = numeral_by_steps (λ n ds. n < 10 ^ 64 → ds ≡ decimal n)
    (λ n small low. sym (decimal_digit n small))
    (λ n ds large same low. ap (λ t. t ++ (48 + n % 10) ∷ []) (same (omega arith)) ∙ sym (decimal_step_wide n large low))
