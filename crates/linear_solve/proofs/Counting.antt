-- How many octagon rows with different linear parts there are: a row is told by its first place with
-- its sign, and its other place with its sign.
use Rattle.std.proofs.Common.{◌≡◌, ◌≢◌, ◌⊎◌, inl, inr, ℕ, zero, suc, ◌+◌, ◌-◌, ◌*◌, ◌/◌, ◌<◌, ◌≤◌, ℤ, pos, negsuc, List, [], ◌∷◌, length, set, get_or, refl, sym, ap, subst, ◌∙◌, arith, ⊎_elim, unsigned_abs, Bool, true, false, cond, eqb, Contains}
use Rattle.std.proofs.lemmas.Int.{ints}
use Rattle.std.proofs.lemmas.Bool.{cases_lt}
use Rattle.std.proofs.lemmas.Bool.Decides.{eqb_tells}
use Rattle.std.proofs.Math.Nat.{le_trans, mul-le-mul_left}
use Rattle.linear_cons.specs.declared.row.Row.{Row}
use Rattle.linear_cons.specs.Functions.{coefficient}
use Rattle.linear_cons.specs.Numbers.{number_at}
use Rattle.std.proofs.lemmas.List.Elements.{Contains-get_or}
use Rattle.linear_cons.proofs.Places.{number_at-clear}
use Rattle.linear_cons.specs.Tightest.{AreDistinct}
use Rattle.linear_solve.specs.Elimination.{lowers_of, made_of, one_above, one_below, uppers_of}
use Rattle.linear_solve.specs.Systems.{weight_below}
use Rattle.linear_solve.proofs.Sizes.{mul_le_mul, weight_le, weight_pair}

-- ---- different codes below n: at most n of them

-- 1 where two numbers are the same, and else 0
abbrev one_same : ℕ → ℕ → ℕ
one_same a b = cond (eqb a b) 1 0

-- how many of the numbers below n are the code: 1 where it is below n, and else 0
abbrev within : ℕ → ℕ → ℕ
within zero c = 0
within (suc n) c = within n c + one_same c n

-- what a function of rows gives in all
abbrev tally : (Row → ℕ) → List Row → ℕ
tally f [] = 0
tally f (x ∷ xs) = f x + tally f xs

same_is : (a b : ℕ) → a ≡ b → one_same a b ≡ 1
same_is a b is = ⊎_elim
    (λ (t : (eqb a b ≡ true) × (a ≡ b)). ap (λ t. cond t 1 0) t.0)
    (λ (f : (eqb a b ≡ false) × (a ≢ b)). absurd (f.1 is))
    (eqb_tells a b)

same_not : (a b : ℕ) → a ≢ b → one_same a b ≡ 0
same_not a b apart = ⊎_elim
    (λ (t : (eqb a b ≡ true) × (a ≡ b)). absurd (apart t.1))
    (λ (f : (eqb a b ≡ false) × (a ≢ b)). ap (λ t. cond t 1 0) f.0)
    (eqb_tells a b)

same_cases : (a b : ℕ) → ((one_same a b ≡ 1) × (a ≡ b)) ⊎ (one_same a b ≡ 0)
same_cases a b = ⊎_elim
    (λ (t : (eqb a b ≡ true) × (a ≡ b)). inl (same_is a b t.1, t.1))
    (λ (f : (eqb a b ≡ false) × (a ≢ b)). inr (same_not a b f.1))
    (eqb_tells a b)

within_some : (n c : ℕ) → c < n → 1 ≤ within n c
within_some zero c low = absurd (omega arith)
within_some (suc n) c low = ⊎_elim
    (λ (less : c < n). let p = within_some n c less in omega (arith, p))
    (λ (from : n ≤ c). let p = same_is c n (omega arith) in omega (arith, p))
    (cases_lt c n)

-- of the rows that are chosen no two have the same code
abbrev AreApart : (Row → ℕ) → (Row → ℕ) → List Row → Type 0
AreApart chosen code rows = (i j : ℕ) (d : Row) → i < j → j < length rows → chosen (get_or rows i d) ≡ 1 → chosen (get_or rows j d) ≡ 1 → code (get_or rows i d) ≡ code (get_or rows j d) → ⊥

module _ (chosen code : Row → ℕ) (bit : (row : Row) → chosen row ≤ 1) where
  -- no row is chosen and has the code
  code_none : (k : ℕ) (rows : List Row) → ((j : ℕ) (d : Row) → j < length rows → chosen (get_or rows j d) ≡ 1 → code (get_or rows j d) ≡ k → ⊥) → tally (λ row. chosen row * one_same (code row) k) rows ≡ 0
  code_none k [] none = refl
  code_none k (x ∷ xs) none =
      let later = code_none k xs (λ j d low is same. none (suc j) d (omega arith) is same) in
      let here : chosen x * one_same (code x) k ≡ 0 = ⊎_elim
      (λ (same : (one_same (code x) k ≡ 1) × (code x ≡ k)). ⊎_elim
      (λ (unchosen : chosen x < 1). product_none (chosen x) (one_same (code x) k) (omega arith))
      (λ (is : 1 ≤ chosen x). absurd (none 0 x (omega arith) (let b = bit x in omega (arith, b, is)) same.1))
      (cases_lt (chosen x) 1))
      (λ (other : one_same (code x) k ≡ 0). ap (λ t. chosen x * t) other ∙ times_zero (chosen x))
      (same_cases (code x) k) in
      omega (arith, here, later)
    where
      product_none : (a b : ℕ) → a ≡ 0 → a * b ≡ 0
      product_none a b is = ap (λ t. t * b) is ∙ zero_times b
        where
          zero_times : (n : ℕ) → 0 * n ≡ 0
          zero_times n = omega arith

      times_zero : (a : ℕ) → a * 0 ≡ 0
      times_zero a = omega arith

  -- at most one row is chosen and has the code
  code_one : (k : ℕ) (rows : List Row) → AreApart chosen code rows → tally (λ row. chosen row * one_same (code row) k) rows ≤ 1
  code_one k [] apart = omega arith
  code_one k (x ∷ xs) apart = ⊎_elim
      (λ (same : (one_same (code x) k ≡ 1) × (code x ≡ k)). ⊎_elim
      (λ (unchosen : chosen x < 1).
      let later = code_one k xs (λ i j d less low. apart (suc i) (suc j) d (omega arith) (omega arith)) in
      let none : chosen x ≡ 0 = omega arith in
      let here : chosen x * one_same (code x) k ≡ 0 = ap (λ t. t * one_same (code x) k) none ∙ zero_times (one_same (code x) k) in
      omega (arith, later, here))
      (λ (is : 1 ≤ chosen x).
      let one : chosen x ≡ 1 = let b = bit x in omega (arith, b, is) in
      let later = code_none k xs (λ j d low chosen_too code_too. apart 0 (suc j) d (omega arith) (omega arith) one chosen_too (same.1 ∙ sym code_too)) in
      let here : chosen x * one_same (code x) k ≡ 1 = ap (λ t. t * one_same (code x) k) one ∙ ap (λ t. 1 * t) same.0 in
      omega (arith, later, here))
      (cases_lt (chosen x) 1))
      (λ (other : one_same (code x) k ≡ 0).
      let later = code_one k xs (λ i j d less low. apart (suc i) (suc j) d (omega arith) (omega arith)) in
      let here : chosen x * one_same (code x) k ≡ 0 = ap (λ t. chosen x * t) other ∙ times_zero (chosen x) in
      omega (arith, later, here))
      (same_cases (code x) k)
    where
      zero_times : (n : ℕ) → 0 * n ≡ 0
      zero_times n = omega arith

      times_zero : (a : ℕ) → a * 0 ≡ 0
      times_zero a = omega arith

  tally_split : (n : ℕ) (rows : List Row) → tally (λ row. chosen row * within (suc n) (code row)) rows ≡ tally (λ row. chosen row * within n (code row)) rows + tally (λ row. chosen row * one_same (code row) n) rows
  tally_split n [] = refl
  tally_split n (x ∷ xs) = let later = tally_split n xs in omega (arith, later)

  codes_within : (n : ℕ) (rows : List Row) → AreApart chosen code rows → tally (λ row. chosen row * within n (code row)) rows ≤ n
  codes_within zero rows apart = zero_tally rows
    where
      zero_tally : (rows : List Row) → tally (λ row. chosen row * within zero (code row)) rows ≤ 0
      zero_tally [] = omega arith
      zero_tally (x ∷ xs) = let p = zero_tally xs in omega (arith, p)
  codes_within (suc n) rows apart =
      let before = codes_within n rows apart in
      let one = code_one n rows apart in
      let split = tally_split n rows in
      omega (arith, before, one, split)

  -- different codes below n: at most n rows
  pub codes_below : (n : ℕ) (rows : List Row) → ((row : Row) → code row < n) → AreApart chosen code rows → tally chosen rows ≤ n
  codes_below n rows low apart = le_trans (each rows) (codes_within n rows apart)
    where
      each : (rows : List Row) → tally chosen rows ≤ tally (λ row. chosen row * within n (code row)) rows
      each [] = omega arith
      each (x ∷ xs) =
          let later = each xs in
          let here : chosen x * 1 ≤ chosen x * within n (code x) = mul-le-mul_left (chosen x) (within_some n (code x) (low x)) in
          omega (arith, later, here)

-- ---- the code of octagon rows

-- a number's place and sign, or the rest where it is 0
abbrev signed_place : ℤ → ℕ → ℕ → ℕ
signed_place (pos zero) n rest = rest
signed_place (pos (suc k)) n rest = 2 * n + 1
signed_place (negsuc k) n rest = 2 * n + 2

-- the last place below n with a number other than 0, and its sign; 0 for none
abbrev lead : ℕ → List ℤ → ℕ
lead zero xs = 0
lead (suc n) xs = signed_place (number_at xs n) n (lead n xs)

-- the same without one of the places
abbrev partner : ℕ → ℕ → List ℤ → ℕ
partner zero p xs = 0
partner (suc n) p xs = cond (eqb n p) (partner n p xs) (signed_place (number_at xs n) n (partner n p xs))

signed_bound : (z : ℤ) (n rest : ℕ) → rest ≤ 2 * n → signed_place z n rest ≤ 2 * suc n
signed_bound (pos zero) n rest le = omega arith
signed_bound (pos (suc k)) n rest le = omega arith
signed_bound (negsuc k) n rest le = omega arith

lead_bound : (n : ℕ) (xs : List ℤ) → lead n xs ≤ 2 * n
lead_bound zero xs = omega arith
lead_bound (suc n) xs = signed_bound (number_at xs n) n (lead n xs) (lead_bound n xs)

partner_bound : (n p : ℕ) (xs : List ℤ) → partner n p xs ≤ 2 * n
partner_bound zero p xs = omega arith
partner_bound (suc n) p xs = cond_bound (eqb n p) (partner n p xs) _ (2 * suc n) (let b = partner_bound n p xs in omega (arith, b)) (signed_bound (number_at xs n) n (partner n p xs) (partner_bound n p xs))
  where
    cond_bound : (b : Bool) (x y m : ℕ) → x ≤ m → y ≤ m → cond b x y ≤ m
    cond_bound true x y m le also = le
    cond_bound false x y m le also = also

-- what the code says of a place
abbrev decode : ℕ → ℕ → ℤ
decode c i = cond (eqb c (2 * i + 1)) (pos 1) (cond (eqb c (2 * i + 2)) (negsuc 0) (pos 0))

eqb_is : (a b : ℕ) → a ≡ b → eqb a b ≡ true
eqb_is a b is = ⊎_elim (λ (t : (eqb a b ≡ true) × (a ≡ b)). t.0) (λ (f : (eqb a b ≡ false) × (a ≢ b)). absurd (f.1 is)) (eqb_tells a b)

eqb_not : (a b : ℕ) → a ≢ b → eqb a b ≡ false
eqb_not a b apart = ⊎_elim (λ (t : (eqb a b ≡ true) × (a ≡ b)). absurd (apart t.1)) (λ (f : (eqb a b ≡ false) × (a ≢ b)). f.0) (eqb_tells a b)

decode_none : (c i : ℕ) → c ≢ 2 * i + 1 → c ≢ 2 * i + 2 → decode c i ≡ pos 0
decode_none c i apart also = rw (eqb_not c (2 * i + 1) apart, eqb_not c (2 * i + 2) also) refl

decode_above : (c i : ℕ) → c ≡ 2 * i + 1 → decode c i ≡ pos 1
decode_above c i is = rw (eqb_is c (2 * i + 1) is) refl

decode_below : (c i : ℕ) → c ≡ 2 * i + 2 → decode c i ≡ negsuc 0
decode_below c i is = rw (eqb_not c (2 * i + 1) (omega (arith, is)), eqb_is c (2 * i + 2) is) refl

-- the coefficients of an octagon row: 0, 1 or -1, of a weight of at most 2
pub record IsOctagonPart (xs : List ℤ) : Type 0 where
  pub units : (i : ℕ) → i < 16 → unsigned_abs (number_at xs i) ≤ 1
  pub two : weight_below 16 xs ≤ 2

-- a number of size at most 1
unit_cases : (z : ℤ) → unsigned_abs z ≤ 1 → (z ≡ pos 0) ⊎ ((z ≡ pos 1) ⊎ (z ≡ negsuc 0))
unit_cases (pos zero) small = inl refl
unit_cases (pos (suc k)) small = let e : k ≡ 0 = omega arith in inr (inl (rw e refl))
unit_cases (negsuc k) small = let e : k ≡ 0 = omega arith in inr (inr (rw e refl))

module _ (xs : List ℤ) (p : ℕ) (units : (i : ℕ) → i < 16 → unsigned_abs (number_at xs i) ≤ 1)
    (alone : (i j : ℕ) → i < 16 → j < 16 → i ≢ p → j ≢ p → i ≢ j → number_at xs i ≢ pos 0 → number_at xs j ≡ pos 0) where
  -- the code tells the numbers at the other places
  partner_reads : (n : ℕ) → n ≤ 16 → (i : ℕ) → i < n → i ≢ p → number_at xs i ≡ decode (partner n p xs) i
  partner_reads zero le i low apart = absurd (omega arith)
  partner_reads (suc n) le i low apart = ⊎_elim
      (λ (here : (eqb n p ≡ true) × (n ≡ p)).
      let less : i < n = ⊎_elim (λ (h : i < n). h) (λ (h : n ≤ i). absurd (apart (omega (arith, h, here.1)))) (cases_lt i n) in
      rw here.0 (partner_reads n (omega arith) i less apart))
      (λ (other : (eqb n p ≡ false) × (n ≢ p)). rw other.0 (⊎_elim
      (λ (none : number_at xs n ≡ pos 0). rw none (⊎_elim
      (λ (less : i < n). partner_reads n (omega arith) i less apart)
      (λ (last : n ≤ i). let e : i ≡ n = omega arith in let b = partner_bound n p xs in rw e (none ∙ sym (decode_none (partner n p xs) n (omega (arith, b)) (omega (arith, b)))))
      (cases_lt i n)))
      (λ (some : (number_at xs n ≡ pos 1) ⊎ (number_at xs n ≡ negsuc 0)). ⊎_elim
      (λ (one : number_at xs n ≡ pos 1). rw one (⊎_elim
      (λ (less : i < n). alone n i (omega arith) (omega arith) other.1 apart (omega arith) (λ zero_too. absurd (cc)) ∙ sym (decode_none (2 * n + 1) i (omega arith) (omega arith)))
      (λ (last : n ≤ i). let e : i ≡ n = omega arith in rw e (one ∙ sym (decode_above (2 * n + 1) n refl)))
      (cases_lt i n)))
      (λ (minus : number_at xs n ≡ negsuc 0). rw minus (⊎_elim
      (λ (less : i < n). alone n i (omega arith) (omega arith) other.1 apart (omega arith) (λ zero_too. absurd (cc)) ∙ sym (decode_none (2 * n + 2) i (omega arith) (omega arith)))
      (λ (last : n ≤ i). let e : i ≡ n = omega arith in rw e (minus ∙ sym (decode_below (2 * n + 2) n refl)))
      (cases_lt i n)))
      some)
      (unit_cases (number_at xs n) (units n (omega arith)))))
      (eqb_tells n p)

-- ---- rows with the same code have the same linear part

clear_le : (n p : ℕ) (xs : List ℤ) → weight_below n (set xs p (pos 0)) ≤ weight_below n xs
clear_le n p xs = weight_le n (set xs p (pos 0)) xs (λ i low. rw number_at-clear (⊎_elim
    (λ (same : (eqb i p ≡ true) × (i ≡ p)). rw same.0 (omega arith))
    (λ (apart : (eqb i p ≡ false) × (i ≢ p)). rw apart.0 (omega arith))
    (eqb_tells i p)))

clear_weight : (n p : ℕ) (xs : List ℤ) → p < n → weight_below n (set xs p (pos 0)) + unsigned_abs (number_at xs p) ≤ weight_below n xs
unfolding weight_below
clear_weight zero p xs low = absurd (omega arith)
clear_weight (suc n) p xs low = ⊎_elim
    (λ (earlier : p < n).
    let before = clear_weight n p xs earlier in
    let here : number_at (set xs p (pos 0)) n ≡ number_at xs n = number_at-clear xs p n ∙ ap (λ t. cond t (pos 0) (number_at xs n)) (eqb_not n p (omega (arith, earlier))) in
    let size = ap unsigned_abs here in
    omega (arith, before, size))
    (λ (from : n ≤ p).
    let e : n ≡ p = omega arith in
    let before = clear_le n p xs in
    let here : number_at (set xs p (pos 0)) n ≡ pos 0 = number_at-clear xs p n ∙ ap (λ t. cond t (pos 0) (number_at xs n)) (eqb_is n p e) in
    let size = ap unsigned_abs here in
    let own : unsigned_abs (number_at xs n) ≡ unsigned_abs (number_at xs p) = ap (λ t. unsigned_abs (number_at xs t)) e in
    omega (arith, before, size, own))
    (cases_lt p n)

zero_size : (z : ℤ) → unsigned_abs z ≤ 0 → z ≡ pos 0
zero_size z none = omega (arith, ints)

some_size : (z : ℤ) → z ≢ pos 0 → 1 ≤ unsigned_abs z
some_size z some = ⊎_elim
    (λ (none : unsigned_abs z < 1). absurd (some (zero_size z (omega arith))))
    (λ (more : 1 ≤ unsigned_abs z). more)
    (cases_lt (unsigned_abs z) 1)

-- beside a place with a number other than 0 there is at most one more
alone_of : (xs : List ℤ) (p : ℕ) → IsOctagonPart xs → p < 16 → 1 ≤ unsigned_abs (number_at xs p) → (i j : ℕ) → i < 16 → j < 16 → i ≢ p → j ≢ p → i ≢ j → number_at xs i ≢ pos 0 → number_at xs j ≡ pos 0
alone_of xs p part low some i j inside also apart other different more =
    let cleared = clear_weight 16 p xs low in
    let pair = weight_pair 16 (set xs p (pos 0)) i j inside also different in
    let first : number_at (set xs p (pos 0)) i ≡ number_at xs i = number_at-clear xs p i ∙ ap (λ t. cond t (pos 0) (number_at xs i)) (eqb_not i p apart) in
    let second : number_at (set xs p (pos 0)) j ≡ number_at xs j = number_at-clear xs p j ∙ ap (λ t. cond t (pos 0) (number_at xs j)) (eqb_not j p other) in
    let first_size = ap unsigned_abs first in
    let second_size = ap unsigned_abs second in
    let one = some_size (number_at xs i) more in
    let two = part.two in
    zero_size (number_at xs j) (omega (arith, cleared, pair, first_size, second_size, one, two, some))

part_same : (xs ys : List ℤ) (p : ℕ) → IsOctagonPart xs → IsOctagonPart ys → p < 16 → 1 ≤ unsigned_abs (number_at xs p) → number_at xs p ≡ number_at ys p → partner 16 p xs ≡ partner 16 p ys → (i : ℕ) → i < 16 → number_at xs i ≡ number_at ys i
part_same xs ys p part other low some same codes i inside = ⊎_elim
    (λ (here : (eqb i p ≡ true) × (i ≡ p)). rw here.1 same)
    (λ (apart : (eqb i p ≡ false) × (i ≢ p)).
    partner_reads xs p part.units (alone_of xs p part low some) 16 (omega arith) i inside apart.1
    ∙ ap (λ t. decode t i) codes
    ∙ sym (partner_reads ys p other.units (alone_of ys p other low (subst (λ t. 1 ≤ unsigned_abs t) same some)) 16 (omega arith) i inside apart.1))
    (eqb_tells i p)

-- what the last place with a number other than 0 says
lead_says : (n : ℕ) (xs : List ℤ) → n ≤ 16 → ((i : ℕ) → i < 16 → unsigned_abs (number_at xs i) ≤ 1)
    → (((i : ℕ) → i < n → number_at xs i ≡ pos 0) × (lead n xs ≡ 0)) ⊎ ((q : ℕ) × ((q < n) × (((number_at xs q ≡ pos 1) × (lead n xs ≡ 2 * q + 1)) ⊎ ((number_at xs q ≡ negsuc 0) × (lead n xs ≡ 2 * q + 2)))))
lead_says zero xs le units = inl (λ i low. absurd (omega arith), refl)
lead_says (suc n) xs le units = ⊎_elim
    (λ (none : number_at xs n ≡ pos 0).
    let skip : lead (suc n) xs ≡ lead n xs = ap (λ t. signed_place t n (lead n xs)) none in
    ⊎_elim
    (λ (before : ((i : ℕ) → i < n → number_at xs i ≡ pos 0) × (lead n xs ≡ 0)).
    inl (λ i low. ⊎_elim (λ (less : i < n). before.0 i less) (λ (last : n ≤ i). let e : i ≡ n = omega arith in rw e none) (cases_lt i n), skip ∙ before.1))
    (λ (found : (q : ℕ) × ((q < n) × (((number_at xs q ≡ pos 1) × (lead n xs ≡ 2 * q + 1)) ⊎ ((number_at xs q ≡ negsuc 0) × (lead n xs ≡ 2 * q + 2))))).
    inr (
      found.0,
      (
        let low = found.1.0 in omega (arith, low),
        ⊎_elim
            (λ (one : (number_at xs found.0 ≡ pos 1) × (lead n xs ≡ 2 * found.0 + 1)). inl (one.0, skip ∙ one.1))
            (λ (minus : (number_at xs found.0 ≡ negsuc 0) × (lead n xs ≡ 2 * found.0 + 2)). inr (minus.0, skip ∙ minus.1))
            found.1.1,
      ),
    ))
    (lead_says n xs (omega arith) units))
    (λ (some : (number_at xs n ≡ pos 1) ⊎ (number_at xs n ≡ negsuc 0)). inr (
      n,
      (
        omega arith,
        ⊎_elim
            (λ (one : number_at xs n ≡ pos 1). inl (one, ap (λ t. signed_place t n (lead n xs)) one))
            (λ (minus : number_at xs n ≡ negsuc 0). inr (minus, ap (λ t. signed_place t n (lead n xs)) minus))
            some,
      ),
    ))
    (unit_cases (number_at xs n) (units n (omega arith)))

-- the place of a code
abbrev place_of : ℕ → ℕ
place_of c = (c - 1) / 2

abbrev whole_code : List ℤ → ℕ
whole_code xs = lead 16 xs * 33 + partner 16 (place_of (lead 16 xs)) xs

codes_parts : (a b c d : ℕ) → b ≤ 32 → d ≤ 32 → a * 33 + b ≡ c * 33 + d → (a ≡ c) × (b ≡ d)
codes_parts a b c d low also same = (omega arith, omega arith)

whole_same : (xs ys : List ℤ) → IsOctagonPart xs → IsOctagonPart ys → whole_code xs ≡ whole_code ys → (i : ℕ) → i < 16 → number_at xs i ≡ number_at ys i
whole_same xs ys part other codes =
    let both = codes_parts (lead 16 xs) (partner 16 (place_of (lead 16 xs)) xs) (lead 16 ys) (partner 16 (place_of (lead 16 ys)) ys) (partner_bound 16 (place_of (lead 16 xs)) xs) (partner_bound 16 (place_of (lead 16 ys)) ys) codes in
    ⊎_elim
    (λ (none : ((i : ℕ) → i < 16 → number_at xs i ≡ pos 0) × (lead 16 xs ≡ 0)). ⊎_elim
    (λ (also : ((i : ℕ) → i < 16 → number_at ys i ≡ pos 0) × (lead 16 ys ≡ 0)). λ i low. none.0 i low ∙ sym (also.0 i low))
    (λ (found : Says ys). absurd (⊎_elim
    (λ (one : (number_at ys found.0 ≡ pos 1) × (lead 16 ys ≡ 2 * found.0 + 1)). let l = none.1 in let r = one.1 in let e = both.0 in omega (arith, l, r, e))
    (λ (minus : (number_at ys found.0 ≡ negsuc 0) × (lead 16 ys ≡ 2 * found.0 + 2)). let l = none.1 in let r = minus.1 in let e = both.0 in omega (arith, l, r, e))
    found.1.1))
    (lead_says 16 ys (omega arith) other.units))
    (λ (found : Says xs). ⊎_elim
    (λ (none : ((i : ℕ) → i < 16 → number_at ys i ≡ pos 0) × (lead 16 ys ≡ 0)). absurd (⊎_elim
    (λ (one : (number_at xs found.0 ≡ pos 1) × (lead 16 xs ≡ 2 * found.0 + 1)). let l = none.1 in let r = one.1 in let e = both.0 in omega (arith, l, r, e))
    (λ (minus : (number_at xs found.0 ≡ negsuc 0) × (lead 16 xs ≡ 2 * found.0 + 2)). let l = none.1 in let r = minus.1 in let e = both.0 in omega (arith, l, r, e))
    found.1.1))
    (λ (also : Says ys). go found also both)
    (lead_says 16 ys (omega arith) other.units))
    (lead_says 16 xs (omega arith) part.units)
  where
    Says : List ℤ → Type 0
    Says zs = (q : ℕ) × ((q < 16) × (((number_at zs q ≡ pos 1) × (lead 16 zs ≡ 2 * q + 1)) ⊎ ((number_at zs q ≡ negsuc 0) × (lead 16 zs ≡ 2 * q + 2))))

    same_at : (q r : ℕ) → q < 16 → q ≡ r → place_of (lead 16 xs) ≡ q → place_of (lead 16 ys) ≡ r → 1 ≤ unsigned_abs (number_at xs q) → number_at xs q ≡ number_at ys r → partner 16 (place_of (lead 16 xs)) xs ≡ partner 16 (place_of (lead 16 ys)) ys → (i : ℕ) → i < 16 → number_at xs i ≡ number_at ys i
    same_at q r low places first second some same partners =
        part_same xs ys q part other low some (same ∙ ap (λ t. number_at ys t) (sym places)) (sym (ap (λ t. partner 16 t xs) first) ∙ partners ∙ ap (λ t. partner 16 t ys) (second ∙ sym places))

    go : Says xs → Says ys → (lead 16 xs ≡ lead 16 ys) × (partner 16 (place_of (lead 16 xs)) xs ≡ partner 16 (place_of (lead 16 ys)) ys) → (i : ℕ) → i < 16 → number_at xs i ≡ number_at ys i
    go found also both = ⊎_elim
        (λ (one : (number_at xs found.0 ≡ pos 1) × (lead 16 xs ≡ 2 * found.0 + 1)). ⊎_elim
        (λ (too : (number_at ys also.0 ≡ pos 1) × (lead 16 ys ≡ 2 * also.0 + 1)).
        let l = one.1 in let r = too.1 in let e = both.0 in
        same_at found.0 also.0 found.1.0 (omega (arith, l, r, e)) (omega (arith, l)) (omega (arith, r)) (rw one.0 (omega arith)) (one.0 ∙ sym too.0) both.1)
        (λ (minus : (number_at ys also.0 ≡ negsuc 0) × (lead 16 ys ≡ 2 * also.0 + 2)). absurd (let l = one.1 in let r = minus.1 in let e = both.0 in omega (arith, l, r, e)))
        also.1.1)
        (λ (minus : (number_at xs found.0 ≡ negsuc 0) × (lead 16 xs ≡ 2 * found.0 + 2)). ⊎_elim
        (λ (one : (number_at ys also.0 ≡ pos 1) × (lead 16 ys ≡ 2 * also.0 + 1)). absurd (let l = minus.1 in let r = one.1 in let e = both.0 in omega (arith, l, r, e)))
        (λ (too : (number_at ys also.0 ≡ negsuc 0) × (lead 16 ys ≡ 2 * also.0 + 2)).
        let l = minus.1 in let r = too.1 in let e = both.0 in
        same_at found.0 also.0 found.1.0 (omega (arith, l, r, e)) (omega (arith, l)) (omega (arith, r)) (rw minus.0 (omega arith)) (minus.0 ∙ sym too.0) both.1)
        also.1.1)
        found.1.1

-- ---- how many rows there are

bit_above : (z : ℤ) → one_above z ≤ 1
bit_above (pos zero) = omega arith
bit_above (pos (suc n)) = omega arith
bit_above (negsuc n) = omega arith

bit_below : (z : ℤ) → one_below z ≤ 1
bit_below (pos n) = omega arith
bit_below (negsuc n) = omega arith

above_is : (z : ℤ) → unsigned_abs z ≤ 1 → one_above z ≡ 1 → z ≡ pos 1
above_is (pos zero) small is = absurd (omega arith)
above_is (pos (suc n)) small is = let e : n ≡ 0 = omega arith in rw e refl
above_is (negsuc n) small is = absurd (omega arith)

below_is : (z : ℤ) → unsigned_abs z ≤ 1 → one_below z ≡ 1 → z ≡ negsuc 0
below_is (pos n) small is = absurd (omega arith)
below_is (negsuc n) small is = let e : n ≡ 0 = omega arith in rw e refl

lowers_tally : (place : ℕ) (rows : List Row) → tally (λ row. one_above (coefficient row.affine place)) rows ≡ lowers_of place rows
lowers_tally place [] = refl
lowers_tally place (x ∷ xs) = ap (λ t. one_above (coefficient x.affine place) + t) (lowers_tally place xs)

uppers_tally : (place : ℕ) (rows : List Row) → tally (λ row. one_below (coefficient row.affine place)) rows ≡ uppers_of place rows
uppers_tally place [] = refl
uppers_tally place (x ∷ xs) = ap (λ t. one_below (coefficient x.affine place) + t) (uppers_tally place xs)

length_tally : (rows : List Row) → tally (λ row. 1) rows ≡ length rows
length_tally [] = refl
length_tally (x ∷ xs) = let p = length_tally xs in omega (arith, p)

module _ (rows : List Row) (distinct : AreDistinct rows) (octagons : (row : Row) → Contains rows row → IsOctagonPart row.affine.coef) where
  part_at : (i : ℕ) (d : Row) → i < length rows → IsOctagonPart (get_or rows i d).affine.coef
  part_at i d low = octagons (get_or rows i d) (Contains-get_or rows i d low)

  few_rows : length rows ≤ 1089
  few_rows =
      let p = codes_below (λ row. 1) (λ row. whole_code row.affine.coef) (λ row. omega arith) 1089 rows
      (λ row. let l = lead_bound 16 row.affine.coef in let q = partner_bound 16 (place_of (lead 16 row.affine.coef)) row.affine.coef in omega (arith, l, q))
      (λ i j d less low one also codes. distinct i j d less low (whole_same (get_or rows i d).affine.coef (get_or rows j d).affine.coef (part_at i d (omega (arith, less, low))) (part_at j d low) codes)) in
      let e = length_tally rows in
      omega (arith, p, e)

  few_lowers : (place : ℕ) → place < 16 → lowers_of place rows ≤ 33
  few_lowers place inside =
      let p = codes_below (λ row. one_above (coefficient row.affine place)) (λ row. partner 16 place row.affine.coef) (λ row. bit_above (coefficient row.affine place)) 33 rows
      (λ row. let q = partner_bound 16 place row.affine.coef in omega (arith, q))
      (λ i j d less low one also codes.
      let first = part_at i d (omega (arith, less, low)) in
      let second = part_at j d low in
      let own = above_is (coefficient (get_or rows i d).affine place) (first.units place inside) one in
      let other = above_is (coefficient (get_or rows j d).affine place) (second.units place inside) also in
      distinct i j d less low (part_same (get_or rows i d).affine.coef (get_or rows j d).affine.coef place first second inside (rw own (omega arith)) (own ∙ sym other) codes)) in
      let e = lowers_tally place rows in
      omega (arith, p, e)

  few_uppers : (place : ℕ) → place < 16 → uppers_of place rows ≤ 33
  few_uppers place inside =
      let p = codes_below (λ row. one_below (coefficient row.affine place)) (λ row. partner 16 place row.affine.coef) (λ row. bit_below (coefficient row.affine place)) 33 rows
      (λ row. let q = partner_bound 16 place row.affine.coef in omega (arith, q))
      (λ i j d less low one also codes.
      let first = part_at i d (omega (arith, less, low)) in
      let second = part_at j d low in
      let own = below_is (coefficient (get_or rows i d).affine place) (first.units place inside) one in
      let other = below_is (coefficient (get_or rows j d).affine place) (second.units place inside) also in
      distinct i j d less low (part_same (get_or rows i d).affine.coef (get_or rows j d).affine.coef place first second inside (rw own (omega arith)) (own ∙ sym other) codes)) in
      let e = uppers_tally place rows in
      omega (arith, p, e)

pub octagon_made : (rows : List Row) (place : ℕ) → place < 16 → AreDistinct rows → ((row : Row) → Contains rows row → IsOctagonPart row.affine.coef) → made_of place rows ≤ 4096
octagon_made rows place inside distinct octagons =
    let n = few_rows rows distinct octagons in
    let l = few_lowers rows distinct octagons place inside in
    let u = few_uppers rows distinct octagons place inside in
    let product = mul_le_mul (lowers_of place rows) 33 (uppers_of place rows) 33 l u in
    omega (arith, n, product)
