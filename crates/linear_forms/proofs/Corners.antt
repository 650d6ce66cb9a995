-- Products of numbers between two ends, and squares.
use Rattle.std.proofs.Common.{◌≡◌, ℤ, pos, ◌*ℤ◌, neg_ℤ, ◌≤ℤ◌, ◌<ℤ◌, ◌⊎◌, inl, inr, ⊎_elim, Option, Some, None, arith}
use Rattle.std.proofs.lemmas.Int.{ints, by_lt_z, clamps}
use Rattle.std.specs.Int.{int_max}
use Rattle.linear_cons.proofs.Ring.{mul_commutes, mul_le, mul_neg, mul_nonnegative, mul_turned, neg_mul}
use Rattle.linear_cons.specs.Bounds.{IsFrom, IsUpTo}
use Rattle.linear_cons.specs.Ends.{ends_from}
use Rattle.linear_cons.proofs.EndLaws.{up_to_end}
use Rattle.linear_forms.specs.Linearising.{least_of, greatest_of}

-- a number is at least 0, or below it
sign : (k : ℤ) → (pos 0 ≤ℤ k) ⊎ (k <ℤ pos 0)
sign k = by_lt_z k (pos 0) (λ below. inr below) (λ from. inl from)

-- a multiple of a number between two ends is at least that of one end, and at most that of one end
from_an_end : (k c d y : ℤ) → c ≤ℤ y → y ≤ℤ d → ((k *ℤ c) ≤ℤ (k *ℤ y)) ⊎ ((k *ℤ d) ≤ℤ (k *ℤ y))
from_an_end k c d y low high = ⊎_elim (λ from. inl (mul_le k c y from low)) (λ below. inr (mul_turned k y d below high)) (sign k)

to_an_end : (k c d y : ℤ) → c ≤ℤ y → y ≤ℤ d → ((k *ℤ y) ≤ℤ (k *ℤ c)) ⊎ ((k *ℤ y) ≤ℤ (k *ℤ d))
to_an_end k c d y low high = ⊎_elim (λ from. inr (mul_le k y d from high)) (λ below. inl (mul_turned k c y below low)) (sign k)

least_below : (p q r t : ℤ) → (least_of p q r t ≤ℤ p) × (least_of p q r t ≤ℤ q) × (least_of p q r t ≤ℤ r) × (least_of p q r t ≤ℤ t)
least_below p q r t = (omega (arith, ints, clamps), omega (arith, ints, clamps), omega (arith, ints, clamps), omega (arith, ints, clamps))

greatest_above : (p q r t : ℤ) → (p ≤ℤ greatest_of p q r t) × (q ≤ℤ greatest_of p q r t) × (r ≤ℤ greatest_of p q r t) × (t ≤ℤ greatest_of p q r t)
greatest_above p q r t = (omega (arith, ints, clamps), omega (arith, ints, clamps), omega (arith, ints, clamps), omega (arith, ints, clamps))

then_le : (p q r : ℤ) → p ≤ℤ q → q ≤ℤ r → p ≤ℤ r
then_le p q r first second = omega (arith, ints)

-- x times y, for x between a and b and y between c and d
module _ (a b c d x y : ℤ) (from : a ≤ℤ x) (to : x ≤ℤ b) (low : c ≤ℤ y) (high : y ≤ℤ d) where
  from_multiple : (k : ℤ) → (y *ℤ k) ≤ℤ (y *ℤ x) → (l : ℤ) → l ≤ℤ (k *ℤ c) → l ≤ℤ (k *ℤ d) → l ≤ℤ (x *ℤ y)
  from_multiple k le l first second =
      let here : (k *ℤ y) ≤ℤ (x *ℤ y) = rw (mul_commutes k y, mul_commutes x y) le in
      ⊎_elim (λ at_low. then_le _ _ _ (then_le _ _ _ first at_low) here) (λ at_high. then_le _ _ _ (then_le _ _ _ second at_high) here) (from_an_end k c d y low high)

  to_multiple : (k : ℤ) → (y *ℤ x) ≤ℤ (y *ℤ k) → (l : ℤ) → (k *ℤ c) ≤ℤ l → (k *ℤ d) ≤ℤ l → (x *ℤ y) ≤ℤ l
  to_multiple k le l first second =
      let here : (x *ℤ y) ≤ℤ (k *ℤ y) = rw (mul_commutes k y, mul_commutes x y) le in
      ⊎_elim (λ at_low. then_le _ _ _ here (then_le _ _ _ at_low first)) (λ at_high. then_le _ _ _ here (then_le _ _ _ at_high second)) (to_an_end k c d y low high)

  pub least_corner_below : least_of (a *ℤ c) (a *ℤ d) (b *ℤ c) (b *ℤ d) ≤ℤ (x *ℤ y)
  least_corner_below =
      let below = least_below (a *ℤ c) (a *ℤ d) (b *ℤ c) (b *ℤ d) in
      ⊎_elim (λ first. from_multiple a first _ below.0 below.1) (λ second. from_multiple b second _ below.2 below.3) (from_an_end y a b x from to)

  pub greatest_corner_above : (x *ℤ y) ≤ℤ greatest_of (a *ℤ c) (a *ℤ d) (b *ℤ c) (b *ℤ d)
  greatest_corner_above =
      let above = greatest_above (a *ℤ c) (a *ℤ d) (b *ℤ c) (b *ℤ d) in
      ⊎_elim (λ first. to_multiple a first _ above.0 above.1) (λ second. to_multiple b second _ above.2 above.3) (to_an_end y a b x from to)

-- ---- squares

pub square_from_0 : (x : ℤ) → pos 0 ≤ℤ (x *ℤ x)
square_from_0 x = ⊎_elim
    (λ from. mul_nonnegative x x from from)
    (λ below.
    let product : pos 0 ≤ℤ (neg_ℤ x *ℤ neg_ℤ x) = mul_nonnegative (neg_ℤ x) (neg_ℤ x) (omega (arith, ints)) (omega (arith, ints)) in
    let left : neg_ℤ x *ℤ neg_ℤ x ≡ neg_ℤ (x *ℤ neg_ℤ x) = neg_mul x (neg_ℤ x) in
    let right : x *ℤ neg_ℤ x ≡ neg_ℤ (x *ℤ x) = mul_neg x x in
    omega (arith, ints))
    (sign x)

greater_of_two : (p q : ℤ) → (p ≤ℤ int_max p q) × (q ≤ℤ int_max p q)
greater_of_two p q = (omega (arith, ints, clamps), omega (arith, ints, clamps))

pub square_to_greater : (a b x : ℤ) → a ≤ℤ x → x ≤ℤ b → (x *ℤ x) ≤ℤ int_max (a *ℤ a) (b *ℤ b)
square_to_greater a b x from to =
    let greater = greater_of_two (a *ℤ a) (b *ℤ b) in
    ⊎_elim
    (λ (above : pos 0 ≤ℤ x).
    let first : (x *ℤ x) ≤ℤ (x *ℤ b) = mul_le x x b above to in
    let second : (b *ℤ x) ≤ℤ (b *ℤ b) = mul_le b x b (then_le _ _ _ above to) to in
    let same = mul_commutes x b in
    then_le _ _ _ first (then_le _ _ _ (rw same second) greater.1))
    (λ (below : x <ℤ pos 0).
    let first : (x *ℤ x) ≤ℤ (x *ℤ a) = mul_turned x a x below from in
    let negative : a <ℤ pos 0 = omega (arith, ints) in
    let second : (a *ℤ x) ≤ℤ (a *ℤ a) = mul_turned a a x negative from in
    let same = mul_commutes x a in
    then_le _ _ _ first (then_le _ _ _ (rw same second) greater.0))
    (sign x)

-- the square of a number between two ends
pub up_to_square : (p q : Option ℤ) (v : ℤ) → IsFrom p v → IsUpTo q v → IsUpTo (ends_from (λ a b. int_max (a *ℤ a) (b *ℤ b)) p q) (v *ℤ v)
up_to_square (Some a) (Some b) v h k = up_to_end (int_max (a *ℤ a) (b *ℤ b)) (v *ℤ v) (square_to_greater a b v h k)
up_to_square (Some a) None v h k = tt
up_to_square None q v h k = tt
