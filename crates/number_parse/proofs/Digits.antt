-- Numerals, digit by digit.
use Rattle.std.proofs.Common.{◌≡◌, ◌∙◌, ℕ, zero, suc, ◌+◌, ◌*◌, ◌/◌, ◌%◌, ◌^◌, ◌<◌, ◌≤◌, List, [], ◌∷◌, ◌++◌, length, inl, inr, refl, ap, ap₂, arith}
use Rattle.std.proofs.lemmas.Bool.{cases_lt}
use Rattle.std.proofs.Math.Nat.{pow-suc}
use Rattle.line_text.specs.Numeral.{numeral}
use Rattle.line_text.proofs.Numerals.{numeral_by_steps, numeral_small, numeral_step}

-- the last bytes of equal lists, and those before
pub same_last : (xs ys : List ℕ) (x y : ℕ) → xs ++ x ∷ [] ≡ ys ++ y ∷ [] → (xs ≡ ys) × (x ≡ y)
same_last [] [] x y is = (refl, cc)
same_last [] (b ∷ []) x y is = cc
same_last [] (b ∷ c ∷ ys) x y is = cc
same_last (a ∷ []) [] x y is = cc
same_last (a ∷ b ∷ xs) [] x y is = cc
same_last (a ∷ xs) (b ∷ ys) x y is =
    let rest : xs ++ x ∷ [] ≡ ys ++ y ∷ [] = cc in
    let both = same_last xs ys x y rest in
    let first : a ≡ b = cc in (cc, both.1)

length_more : (xs : List ℕ) (x : ℕ) → length (xs ++ x ∷ []) ≡ suc (length xs)
length_more [] x = refl
length_more (y ∷ xs) x = ap suc (length_more xs x)

pub nothing : (xs : List ℕ) → length xs ≡ 0 → xs ≡ []
nothing [] none = refl
nothing (x ∷ xs) none = absurd (omega arith)

-- a number with a digit more
pub longer : (high digit : ℕ) → 1 ≤ high → digit < 10 → numeral (high * 10 + digit) ≡ numeral high ++ (48 + digit) ∷ []
longer high digit some low =
    let front : (high * 10 + digit) / 10 ≡ high = omega arith in
    let last : (high * 10 + digit) % 10 ≡ digit = omega arith in
    let large : 10 ≤ high * 10 + digit = omega arith in
    numeral_step (high * 10 + digit) large ∙ ap₂ (λ (a b : ℕ). numeral a ++ (48 + b) ∷ []) front last

-- what numerals are: of one digit, or longer
pub record IsLonger (n : ℕ) (front : List ℕ) (last : ℕ) : Type 0 where
  pub high : ℕ
  pub digit : ℕ
  pub some : 1 ≤ high
  pub low : digit < 10
  pub is : n ≡ high * 10 + digit
  pub front_is : front ≡ numeral high
  pub last_is : last ≡ 48 + digit

pub long_numeral : (n : ℕ) (front : List ℕ) (last : ℕ) → 0 < length front → front ++ last ∷ [] ≡ numeral n → IsLonger n front last
long_numeral n front last some is = elim (cases_lt n 10) [
  | inl small ↦ absurd (let one : front ++ last ∷ [] ≡ [] ++ (48 + n) ∷ [] = is ∙ numeral_small n small in
      let both = same_last front [] last (48 + n) one in let none : length front ≡ 0 = ap length both.0 in omega arith)
  | inr large ↦
      let both = same_last front (numeral (n / 10)) last (48 + n % 10) (is ∙ numeral_step n large) in
      record { high = n / 10; digit = n % 10; some = omega arith; low = omega arith; is = omega arith; front_is = both.0; last_is = both.1 }
]

pub no_numeral : (m : ℕ) (bytes : List ℕ) → length bytes ≡ 0 → bytes ≡ numeral m → ⊥
no_numeral m bytes none is =
    let some : 0 < length (numeral m) = numeral_by_steps (λ k ds. 0 < length ds) (λ k small. omega arith) (λ k ds large is. let l = length_more ds (48 + k % 10) in omega arith) m in
    let same : length bytes ≡ length (numeral m) = ap length is in omega arith

pub short_numeral : (n last : ℕ) → last ∷ [] ≡ numeral n → (n < 10) × (last ≡ 48 + n)
short_numeral n last is = elim (cases_lt n 10) [
  | inl small ↦ (small, (same_last [] [] last (48 + n) (is ∙ numeral_small n small)).1)
  | inr large ↦ absurd (let both = same_last [] (numeral (n / 10)) last (48 + n % 10) (is ∙ numeral_step n large) in no_numeral (n / 10) [] refl both.0)
]

-- a numeral ends with a digit
pub ends : (n : ℕ) (front : List ℕ) (last : ℕ) → front ++ last ∷ [] ≡ numeral n → (48 ≤ last) × (last ≤ 57)
ends n [] last is = let short = short_numeral n last is in (omega (arith, short.0, short.1), omega (arith, short.0, short.1))
ends n (x ∷ xs) last is =
    let long = long_numeral n (x ∷ xs) last (omega arith) is in
    let low = long.low in let at = long.last_is in (omega arith, omega arith)

few : (k n : ℕ) → n < 10 ^ suc k → length (numeral n) ≤ suc k
few zero n low =
    let p : 10 ^ suc 0 ≡ 10 = refl in
    let one : length (numeral n) ≡ 1 = ap length (numeral_small n (omega arith)) in omega arith
few (suc k) n low = elim (cases_lt n 10) [
  | inl small ↦ (let one : length (numeral n) ≡ 1 = ap length (numeral_small n small) in omega arith)
  | inr large ↦
      let p = pow-suc 10 (suc k) in
      let rest = few k (n / 10) (omega arith) in
      let all : length (numeral n) ≡ suc (length (numeral (n / 10))) = ap length (numeral_step n large) ∙ length_more (numeral (n / 10)) (48 + n % 10) in
      omega arith
]

-- the numeral of a number below 2^63 has at most 19 digits
pub few_digits : (n : ℕ) → n < 2 ^ 63 → length (numeral n) ≤ 19
few_digits n low = few 18 n (omega arith)
