-- Proofs, not definitions: quotients by the greatest common divisor and complements have coefficients without a common divisor but 1.
use Rattle.std.proofs.Common.{◌≡◌, ◌≢◌, ℕ, zero, suc, add-one, ◌+◌, ◌*◌, ◌/◌, ◌%◌, ◌<◌, ◌≤◌, true, false, eqb, ℤ, pos, negsuc, List, length}
use Rattle.std.proofs.Common.{sym, ap, ◌∙◌, arith, below_more, unsigned_abs, ⊎_elim}
use Rattle.std.specs.Int.{IsGcd, ◌∣◌}
use Rattle.std.proofs.lemmas.Bool.{cases_lt}
use Rattle.std.proofs.lemmas.Bool.Decides.{eqb_tells}
use Rattle.std.proofs.lemmas.Int.{ints}
use Rattle.std.proofs.lemmas.List.FromFn.{get_or-map-range_with_len, length-map-range_with_len}
use Rattle.std.proofs.lemmas.Nat.Gcd.{IsGcd-from_mod, IsGcd-from_zero, dvd-zero, dvd_trans}
use Rattle.std.proofs.Math.Nat.{mul-div_cancel', eq-one_of_dvd-one, dvd_of_mul-dvd-mul_left, mul-dvd-mul_left, mul-le-mul_left, mul-one}
use Rattle.linear_cons.specs.Numbers.{at_places, floor_by, number_at}
use Rattle.linear_cons.specs.Divisor.{DividesAll, IsDivisorOf, IsPrimitive, divisor_below, divisor_of, gcd, gcd_within}
use Rattle.linear_cons.specs.Functions.{complement_of, quotient_by}
use Rattle.linear_cons.specs.declared.affine.Affine.{Affine}

-- ---- sixteen numbers by place

pub number_at_places : (f : ℕ → ℤ) (i : ℕ) → i < 16 → number_at (at_places f) i ≡ f i
unfolding at_places
number_at_places f i h = get_or-map-range_with_len f 0 16 i i (pos 0) h (omega arith)

pub length-at_places : (f : ℕ → ℤ) → length (at_places f) ≡ 16
unfolding at_places
length-at_places f = length-map-range_with_len f 0 16

-- ---- greatest common divisors

gcd_within_is : (steps a b : ℕ) → b ≤ steps → IsGcd a b (gcd_within steps a b)
gcd_within_is zero a b small = IsGcd-from_zero a b (omega arith)
gcd_within_is (suc steps) a b small = ⊎_elim
    (λ (none : (eqb b 0 ≡ true) × (b ≡ 0)). rw none.0 (IsGcd-from_zero a b none.1))
    (λ (some : (eqb b 0 ≡ false) × (b ≢ 0)).
    let positive : 0 < b = let apart = some.1 in omega arith in
    let rest : a % b ≤ steps = omega arith in
    rw some.0 (IsGcd-from_mod a b (gcd_within steps b (a % b)) (gcd_within_is steps b (a % b) rest)))
    (eqb_tells b 0)

pub gcd_is : (a b : ℕ) → IsGcd a b (gcd a b)
gcd_is a b = gcd_within_is b a b (omega arith)

-- the greatest common divisor of the numbers at the places below n
pub record DivisorBelow (n : ℕ) (xs : List ℤ) (g : ℕ) : Type 0 where
  pub divides : (i : ℕ) → i < n → g ∣ unsigned_abs (number_at xs i)
  pub greatest : (d : ℕ) → ((i : ℕ) → i < n → d ∣ unsigned_abs (number_at xs i)) → d ∣ g

pub divisor_none : (xs : List ℤ) → DivisorBelow 0 xs 0
divisor_none xs = record { divides = λ i h. absurd (omega arith); greatest = λ d h. dvd-zero d }

pub divisor_more : (n : ℕ) (xs : List ℤ) (g next : ℕ) → DivisorBelow n xs g → IsGcd (unsigned_abs (number_at xs n)) g next
    → DivisorBelow (n + 1) xs next
divisor_more n xs g next before both = record {
  divides = below_more _ _ (λ i h. dvd_trans _ both.1 (before.divides i h)) both.0;
  greatest = λ d all. both.2 d (all n (omega arith)) (before.greatest d (λ i h. all i (omega arith)));
}

pub divisor_all : (xs : List ℤ) (g : ℕ) → DivisorBelow 16 xs g → IsDivisorOf xs g
divisor_all xs g below = record { divides = below.divides; greatest = below.greatest }

divisor_below_is : (n : ℕ) (xs : List ℤ) → DivisorBelow n xs (divisor_below n xs)
unfolding divisor_below
divisor_below_is zero xs = divisor_none xs
divisor_below_is (suc n) xs =
    rw (← add-one) (divisor_more n xs (divisor_below n xs) (gcd (unsigned_abs (number_at xs n)) (divisor_below n xs))
    (divisor_below_is n xs) (gcd_is _ _))

pub divisor_is : (xs : List ℤ) → IsDivisorOf xs (divisor_of xs)
divisor_is xs = divisor_all xs (divisor_of xs) (divisor_below_is 16 xs)

-- ---- exact quotients

-- where the divisor divides one more than n, it goes one more time into that than into n
more_times : (g n k : ℕ) → 0 < g → g * k ≡ suc n → k ≡ suc (n / g)
more_times g n k positive whole = ⊎_elim
    (λ (less : k < suc (n / g)).
    let few : g * k ≤ g * (n / g) = mul-le-mul_left g (omega arith) in
    let part : g * (n / g) ≤ n = omega arith in
    absurd (omega arith))
    (λ (from : suc (n / g) ≤ k). ⊎_elim
    (λ (more : suc (n / g) < k).
    let many : g * (n / g + 2) ≤ g * k = mul-le-mul_left g (omega arith) in
    let part : n < g * (n / g) + g = omega arith in
    absurd (omega arith))
    (λ (to : k ≤ suc (n / g)). omega arith)
    (cases_lt (suc (n / g)) k))
    (cases_lt k (suc (n / g)))

-- the size of a number is the divisor times that of its quotient
pub quotient_size : (g : ℕ) (z : ℤ) → 0 < g → g ∣ unsigned_abs z → unsigned_abs z ≡ g * unsigned_abs (floor_by g z)
quotient_size g (pos n) positive divides = sym (mul-div_cancel' g divides)
quotient_size g (negsuc n) positive divides =
    let whole : g * (suc n / g) ≡ suc n = mul-div_cancel' g divides in
    sym whole ∙ ap (λ t. g * t) (more_times g n (suc n / g) positive whole)

-- the quotients by the greatest common divisor have no common divisor but 1
pub primitive_quotients : (g : ℕ) (xs qs : List ℤ) → 0 < g → IsDivisorOf xs g
    → ((i : ℕ) → i < 16 → unsigned_abs (number_at xs i) ≡ g * unsigned_abs (number_at qs i)) → IsPrimitive qs
primitive_quotients g xs qs positive divisor are d all =
    let each : DividesAll (g * d) xs = λ i h. rw (are i h) (mul-dvd-mul_left d g (all i h)) in
    let whole : (g * d) ∣ (g * 1) = rw mul-one (divisor.greatest (g * d) each) in
    eq-one_of_dvd-one (dvd_of_mul-dvd-mul_left d positive whole)

pub primitive_quotient : (a : Affine) (n : ℕ) → IsDivisorOf a.coef (suc n) → IsPrimitive (quotient_by (suc n) a).coef
primitive_quotient a n divisor =
    let positive : 0 < suc n = omega arith in
    primitive_quotients (suc n) a.coef (quotient_by (suc n) a).coef positive divisor
    (λ i h. rw number_at_places (quotient_size (suc n) (number_at a.coef i) positive (divisor.divides i h)))

-- ---- complements

-- a function's complement has coefficients of the same sizes
pub primitive_complement : (e : Affine) → IsPrimitive e.coef → IsPrimitive (complement_of e).coef
primitive_complement e primitive d all =
    primitive d (λ i h. rw (← size i h) (all i h))
  where
    size : (i : ℕ) → i < 16 → unsigned_abs (number_at (complement_of e).coef i) ≡ unsigned_abs (number_at e.coef i)
    size i h = simp number_at_places (omega (arith, ints))
