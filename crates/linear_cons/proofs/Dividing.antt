-- Greatest common divisors of sixteen numbers, and exact division by them.
use Rattle.std.proofs.Common.{◌≡◌, ℕ, suc, ◌+◌, ◌*◌, ◌/◌, ◌<◌, ◌≤◌, ℤ, pos, negsuc, neg_ℤ, ◌+ℤ◌, ◌*ℤ◌, ◌≤ℤ◌, ◌<ℤ◌, List, length, set, sym, ap, ◌∙◌, arith, below_more, get_or-set_other, get_or-set_same, length-set, unsigned_abs, ◌≢◌}
use Rattle.std.specs.Int.{◌∣◌}
use Rattle.std.proofs.lemmas.Int.{ints, unsigned_abs-mul, by_lt_z}
use Rattle.std.proofs.Math.Nat.{mul-div_cancel', eq-one_of_dvd-one, one-dvd}
use Rattle.std.proofs.lemmas.Nat.Gcd.{dvd-zero}
use Rattle.linear_cons.specs.Numbers.{number_at}
use Rattle.linear_cons.specs.Divisor.{IsDivisorOf, IsPrimitive}
pub use Rattle.linear_cons.specs.Laws.Primitive.{DivisorBelow, divisor_all, divisor_more, divisor_none, primitive_complement, primitive_quotients}
use Rattle.linear_cons.proofs.Ring.{mul_le, mul_lt, mul_neg}

-- once the divisor is 1 it stays 1
pub divisor_one : (n : ℕ) (xs : List ℤ) (g : ℕ) → n ≤ 16 → g ≡ 1 → DivisorBelow n xs g → IsDivisorOf xs 1
divisor_one n xs g low one below = record {
  divides = λ i h. one-dvd _;
  greatest = λ d all. rw one at (below.greatest d (λ i h. all i (omega arith)));
}

-- a number that the divisor divides is the divisor times something
multiple : (g : ℕ) (z : ℤ) → g ∣ unsigned_abs z → (k : ℤ) × (z ≡ pos g *ℤ k)
multiple g (pos n) divides = (pos (n / g), ap pos (sym (mul-div_cancel' _ divides)))
multiple g (negsuc n) divides =
    let e : g * (suc n / g) ≡ suc n = mul-div_cancel' _ divides in
    (neg_ℤ (pos (suc n / g)), rw mul_neg (omega (arith, ints, e)))

-- between two neighbouring multiples of the divisor it divides the lower alone
pub exact_quotient : (g : ℕ) (z q : ℤ) → 0 < g → g ∣ unsigned_abs z → (pos g *ℤ q) ≤ℤ z → z <ℤ (pos g *ℤ (q +ℤ pos 1)) → z ≡ pos g *ℤ q
exact_quotient g z q positive divides low high =
    let k = (multiple g z divides).0 in
    let is : z ≡ pos g *ℤ k = (multiple g z divides).1 in
    let above_zero : pos 0 <ℤ pos g = omega (arith, ints) in
    let at_zero : pos 0 ≤ℤ pos g = omega (arith, ints) in
    by_lt_z k q
    (λ less. absurd (let p = mul_lt (pos g) k q above_zero less in omega (arith, ints)))
    (λ from. by_lt_z q k
    (λ more. absurd (let next : (q +ℤ pos 1) ≤ℤ k = omega (arith, ints) in let p = mul_le (pos g) (q +ℤ pos 1) k at_zero next in omega (arith, ints)))
    (λ to. let same : k ≡ q = omega (arith, ints) in is ∙ ap (λ t. pos g *ℤ t) same))

pub primitive_one : (xs : List ℤ) → IsDivisorOf xs 1 → IsPrimitive xs
primitive_one xs divisor d all = eq-one_of_dvd-one (divisor.greatest d all)

-- the places below n hold quotients of the numbers
pub record QuotientBelow (g n : ℕ) (xs qs : List ℤ) : Type 0 where
  pub long : length qs ≡ 16
  pub numbers : (i : ℕ) → i < n → number_at xs i ≡ pos g *ℤ number_at qs i

pub quotient_none : (g : ℕ) (xs qs : List ℤ) → length qs ≡ 16 → QuotientBelow g 0 xs qs
quotient_none g xs qs long = record { long = long; numbers = λ i h. absurd (omega arith) }

pub quotient_more : (g n : ℕ) (xs qs : List ℤ) (q : ℤ) → n < 16 → QuotientBelow g n xs qs → number_at xs n ≡ pos g *ℤ q → QuotientBelow g (n + 1) xs (set qs n q)
quotient_more g n xs qs q low before is = record {
  long = length-set qs n q ∙ before.long;
  numbers = below_more _ _
      (λ i h. let ne : i ≢ n = omega arith in rw get_or-set_other (before.numbers i h))
      (let lt : n < length qs = omega (arith, before.long) in rw get_or-set_same is);
}

pub quotient_sizes : (g : ℕ) (xs qs : List ℤ) → ((i : ℕ) → i < 16 → number_at xs i ≡ pos g *ℤ number_at qs i) → (i : ℕ) → i < 16 → unsigned_abs (number_at xs i) ≡ g * unsigned_abs (number_at qs i)
quotient_sizes g xs qs are i h = ap unsigned_abs (are i h) ∙ unsigned_abs-mul (pos g) (number_at qs i)

-- sixteen numbers that are all 0 have other divisors than 1
pub zeros_not_primitive : (xs : List ℤ) → ((i : ℕ) → i < 16 → number_at xs i ≡ pos 0) → ¬ IsPrimitive xs
zeros_not_primitive xs zeros primitive =
    let two : ◌≡◌ {A = ℕ} 2 1 = primitive 2 (λ i h. rw (zeros i h) (dvd-zero 2)) in
    omega arith
