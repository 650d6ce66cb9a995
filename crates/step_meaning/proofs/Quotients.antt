-- Quotients rounded towards 0: there is one alone, and how it goes with what is divided.
use Rattle.std.proofs.Common.{◌≡◌, ◌≢◌, ℕ, zero, suc, ◌*◌, ◌/◌, ◌%◌, ◌<◌, ◌≤◌, ℤ, pos, negsuc, ◌-ℤ◌, ◌*ℤ◌, neg_ℤ, ◌≤ℤ◌, unsigned_abs, int_div, int_rem, refl, sym, ap, ◌∙◌, subst, arith}
use Rattle.std.proofs.Math.Nat.{div-mul-le_self, mul-le-mul, le_refl, zero-mod}
use Rattle.std.proofs.Math.IntN.{*ℤ_comm}
use Rattle.std.proofs.lemmas.Int.{ints, quot-rem, rem_below, unsigned_abs-mul}
use Rattle.std.proofs.lemmas.Nat.{le-div}
use Rattle.linear_cons.proofs.Ring.{mul_sub}
use Rattle.step_meaning.specs.Outcome.{Truncates}

-- ---- there is a quotient

-- what the truncated quotient leaves
pub left_is : (a b : ℤ) → a -ℤ int_div a b *ℤ b ≡ int_rem a b
left_is a b = let parts = quot-rem a b in omega (arith, ints)

-- it is 0 or has the sign of a
pub rem_above : (a b : ℤ) → pos 0 ≤ℤ a → pos 0 ≤ℤ int_rem a b
rem_above (pos a) b h = omega (arith, ints)
rem_above (negsuc a) b h = absurd (omega (arith, ints))

neg_below : (n : ℕ) → neg_ℤ (pos n) ≤ℤ pos 0
neg_below n = omega (arith, ints)

pub rem_under : (a b : ℤ) → a ≤ℤ pos 0 → int_rem a b ≤ℤ pos 0
rem_under (pos zero) b h = let none : 0 % unsigned_abs b ≡ 0 = zero-mod (unsigned_abs b) in omega (arith, ints)
rem_under (pos (suc a)) b h = absurd (omega (arith, ints))
rem_under (negsuc a) b h = neg_below (suc a % unsigned_abs b)

some_size : (b : ℤ) → b ≢ pos 0 → 0 < unsigned_abs b
some_size (pos zero) some = absurd (some refl)
some_size (pos (suc b)) some = omega arith
some_size (negsuc b) some = omega arith

-- each number has a quotient by each other than 0
pub truncates : (a b : ℤ) → b ≢ pos 0 → Truncates a b (int_div a b)
truncates a b some = record {
  small = subst (λ r. unsigned_abs r < unsigned_abs b) (sym (left_is a b)) (rem_below a b (some_size b some));
  sign = (
    (λ high. subst (λ r. pos 0 ≤ℤ r) (sym (left_is a b)) (rem_above a b high)),
    (λ low. subst (λ r. r ≤ℤ pos 0) (sym (left_is a b)) (rem_under a b low)),
  );
}

-- ---- there is no other

-- a multiple that is smaller than the number itself is that by 0
no_multiple : (b z : ℤ) → unsigned_abs (b *ℤ z) < unsigned_abs b → z ≡ pos 0
no_multiple b (pos zero) h = refl
no_multiple b (pos (suc n)) h =
    let size = unsigned_abs-mul b (pos (suc n)) in
    let more : unsigned_abs b * 1 ≤ unsigned_abs b * suc n = mul-le-mul (le_refl (unsigned_abs b)) (omega arith) in
    absurd (omega arith)
no_multiple b (negsuc n) h =
    let size = unsigned_abs-mul b (negsuc n) in
    let more : unsigned_abs b * 1 ≤ unsigned_abs b * suc n = mul-le-mul (le_refl (unsigned_abs b)) (omega arith) in
    absurd (omega arith)

-- two numbers of one sign that are smaller than a size differ by less
near_above : (r t : ℤ) (n : ℕ) → unsigned_abs r < n → unsigned_abs t < n → pos 0 ≤ℤ r → pos 0 ≤ℤ t → unsigned_abs (r -ℤ t) < n
near_above r t n one two above_one above_two = omega (arith, ints)

near_under : (r t : ℤ) (n : ℕ) → unsigned_abs r < n → unsigned_abs t < n → r ≤ℤ pos 0 → t ≤ℤ pos 0 → unsigned_abs (r -ℤ t) < n
near_under r t n one two under_one under_two = omega (arith, ints)

near : (a b q p : ℤ) → Truncates a b q → Truncates a b p → unsigned_abs ((a -ℤ q *ℤ b) -ℤ (a -ℤ p *ℤ b)) < unsigned_abs b
near (pos a) b q p one two =
    near_above (pos a -ℤ q *ℤ b) (pos a -ℤ p *ℤ b) (unsigned_abs b) one.small two.small (one.sign.0 (omega (arith, ints))) (two.sign.0 (omega (arith, ints)))
near (negsuc a) b q p one two =
    near_under (negsuc a -ℤ q *ℤ b) (negsuc a -ℤ p *ℤ b) (unsigned_abs b) one.small two.small (one.sign.1 (omega (arith, ints))) (two.sign.1 (omega (arith, ints)))

pub only : (a b q p : ℤ) → Truncates a b q → Truncates a b p → q ≡ p
only a b q p one two =
    let turned : b *ℤ (p -ℤ q) ≡ p *ℤ b -ℤ q *ℤ b = mul_sub b p q ∙ ap (λ x. x -ℤ b *ℤ q) (*ℤ_comm b p) ∙ ap (λ x. p *ℤ b -ℤ x) (*ℤ_comm b q) in
    let same : (a -ℤ q *ℤ b) -ℤ (a -ℤ p *ℤ b) ≡ b *ℤ (p -ℤ q) = omega (arith, ints) in
    let none : p -ℤ q ≡ pos 0 = no_multiple b (p -ℤ q) (subst (λ x. unsigned_abs x < unsigned_abs b) same (near a b q p one two)) in
    omega (arith, ints)

-- ---- it grows with what is divided by a positive number, and falls by a negative one

nat_grows : (a c k : ℕ) → 0 < k → a ≤ c → a / k ≤ c / k
nat_grows a c k some less = let under = div-mul-le_self a k in le-div (a / k) c k some (omega arith)

pub grows : (a c : ℤ) (k : ℕ) → 0 < k → a ≤ℤ c → int_div a (pos k) ≤ℤ int_div c (pos k)
grows (pos a) (pos c) k some less = let more = nat_grows a c k some (omega (arith, ints)) in omega (arith, ints)
grows (pos a) (negsuc c) k some less = absurd (omega (arith, ints))
grows (negsuc a) (pos c) k some less = omega (arith, ints)
grows (negsuc a) (negsuc c) k some less = let more = nat_grows (suc c) (suc a) k some (omega (arith, ints)) in omega (arith, ints)

pub falls : (a c : ℤ) (k : ℕ) → a ≤ℤ c → int_div c (negsuc k) ≤ℤ int_div a (negsuc k)
falls (pos a) (pos c) k less = let more = nat_grows a c (suc k) (omega arith) (omega (arith, ints)) in omega (arith, ints)
falls (pos a) (negsuc c) k less = absurd (omega (arith, ints))
falls (negsuc a) (pos c) k less = omega (arith, ints)
falls (negsuc a) (negsuc c) k less = let more = nat_grows (suc c) (suc a) (suc k) (omega arith) (omega (arith, ints)) in omega (arith, ints)

-- ---- what it leaves

pub left_above : (a b q : ℤ) → Truncates a b q → pos 0 ≤ℤ a → (pos 0 ≤ℤ (a -ℤ q *ℤ b)) × ((a -ℤ q *ℤ b) ≤ℤ (pos (unsigned_abs b) -ℤ pos 1))
left_above a b q is high = let small = is.small in let sign = is.sign.0 high in (sign, omega (arith, ints))

pub left_between : (a b q : ℤ) → Truncates a b q → ((pos 1 -ℤ pos (unsigned_abs b)) ≤ℤ (a -ℤ q *ℤ b)) × ((a -ℤ q *ℤ b) ≤ℤ (pos (unsigned_abs b) -ℤ pos 1))
left_between a b q is = let small = is.small in (omega (arith, ints), omega (arith, ints))
