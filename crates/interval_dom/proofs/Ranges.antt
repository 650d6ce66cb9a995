-- Quotients as ends.
use Rattle.std.proofs.Common.{◌≡◌, ◌↔◌, ℕ, ◌<◌, ◌-◌, ◌^◌, ℤ, pos, negsuc, neg_ℤ, ◌+ℤ◌, ◌*ℤ◌, ◌≤ℤ◌, ◌<ℤ◌, refl, arith}
use Rattle.std.proofs.lemmas.Int.{ints, by_lt_z}
use Rattle.linear_cons.specs.Bounds.{IsFrom, IsUpTo}
use Rattle.linear_cons.specs.Numbers.{Fits128}
use Rattle.linear_cons.proofs.Ring.{mul_add, mul_commutes, mul_le, mul_neg, mul_one, neg_mul}
use Rattle.num_domain.specs.Ends.{some_end}
use Rattle.interval_dom.specs.declared.interval.Interval.{Interval}
use Rattle.interval_dom.specs.Intervals.{IsRefined}

-- ---- quotients

-- q is the greatest number whose product with the size g is at most r
pub record IsFloor (g : ℕ) (r q : ℤ) : Type 0 where
  pub positive : 0 < g
  pub at_most : (pos g *ℤ q) ≤ℤ r
  pub below_next : r <ℤ (pos g *ℤ (q +ℤ pos 1))

pub floor_up : (g : ℕ) (r q z : ℤ) → IsFloor g r q → z ≤ℤ q → (pos g *ℤ z) ≤ℤ r
floor_up g r q z floor le =
    let above : pos 0 ≤ℤ pos g = let p = floor.positive in omega (arith, ints) in
    let product : (pos g *ℤ z) ≤ℤ (pos g *ℤ q) = mul_le (pos g) z q above le in
    let low = floor.at_most in
    omega (arith, ints)

pub floor_down : (g : ℕ) (r q z : ℤ) → IsFloor g r q → (pos g *ℤ z) ≤ℤ r → z ≤ℤ q
floor_down g r q z floor low = by_lt_z q z
    (λ more.
    let above : pos 0 ≤ℤ pos g = let p = floor.positive in omega (arith, ints) in
    let step : (q +ℤ pos 1) ≤ℤ z = omega (arith, ints) in
    let product : (pos g *ℤ (q +ℤ pos 1)) ≤ℤ (pos g *ℤ z) = mul_le (pos g) (q +ℤ pos 1) z above step in
    absurd (let high = floor.below_next in omega (arith, ints)))
    (λ to. to)

-- a quotient whose negative does not fit is that of -2^127 by 1
pub least_quotient : (g : ℕ) (r q : ℤ) → IsFloor g r q → Fits128 r → Fits128 q → ¬ Fits128 (neg_ℤ q) → (g ≡ 1) × (r ≡ negsuc (2 ^ 127 - 1))
least_quotient g r q floor fits also outside = by_lt_z (negsuc (2 ^ 127 - 1)) q
    (λ more. absurd (outside (omega (arith, ints))))
    (λ to.
    let positive = floor.positive in
    let low : (q +ℤ pos 1) ≤ℤ pos 0 = omega (arith, ints) in
    let size : (neg_ℤ (q +ℤ pos 1) *ℤ pos 1) ≤ℤ (neg_ℤ (q +ℤ pos 1) *ℤ pos g) = mul_le (neg_ℤ (q +ℤ pos 1)) (pos 1) (pos g) (omega (
      arith,
      ints,
    )) (omega (arith, ints)) in
    let spread = rw (mul_one, neg_mul, mul_commutes (q +ℤ pos 1) (pos g)) at size in
    let high = floor.below_next in
    let is : r ≡ negsuc (2 ^ 127 - 1) = omega (arith, ints) in (
      by_lt_z (pos 1) (pos g)
          (λ several.
          let twice : (neg_ℤ (q +ℤ pos 1) *ℤ (pos 1 +ℤ pos 1)) ≤ℤ (neg_ℤ (q +ℤ pos 1) *ℤ pos g) =
          mul_le (neg_ℤ (q +ℤ pos 1)) (pos 1 +ℤ pos 1) (pos g) (omega (arith, ints)) (omega (arith, ints)) in
          let doubled = mul_add (neg_ℤ (q +ℤ pos 1)) (pos 1) (pos 1) in
          let one = mul_one (neg_ℤ (q +ℤ pos 1)) in
          let product : neg_ℤ (q +ℤ pos 1) *ℤ pos g ≡ neg_ℤ (pos g *ℤ (q +ℤ pos 1)) = rw (
            neg_mul,
            mul_commutes (q +ℤ pos 1) (pos g),
          ) refl in
          absurd (omega (arith, ints)))
          (λ one. omega (arith, ints)),
      is,
    ))

-- ---- refined intervals

-- where the factor is negative the quotient by its size is an upper end
pub refined_upper : (range part : Interval) (factor rest q : ℤ) (g : ℕ) → factor ≡ neg_ℤ (pos g) → IsFloor g rest q
    → ((z : ℤ) → IsUpTo (some_end part.upper) z ↔ (IsUpTo (some_end range.upper) z × (z ≤ℤ q))) → part.lower ≡ range.lower
    → IsRefined range factor rest part
refined_upper range part factor rest q g is floor upper lower = record {
  keeps = λ z holds met. record {
    from = rw lower holds.from;
    up_to = (upper z).1 (holds.up_to, floor_down g rest q z floor (size z met));
  };
  inside = λ z holds. record { from = rw (← lower) holds.from; up_to = ((upper z).0 holds.up_to).0 };
  meets = λ fits z holds. back z (floor_up g rest q z floor ((upper z).0 holds.up_to).1);
}
  where
    size : (z : ℤ) → pos 0 ≤ℤ (factor *ℤ z +ℤ rest) → (pos g *ℤ z) ≤ℤ rest
    size z met = let spread = rw (is, neg_mul (pos g) z) at met in omega (arith, ints)

    back : (z : ℤ) → (pos g *ℤ z) ≤ℤ rest → pos 0 ≤ℤ (factor *ℤ z +ℤ rest)
    back z le = rw (is, neg_mul (pos g) z) (omega (arith, ints))

-- where the factor is positive the quotient's negative is a lower end
pub refined_lower : (range part : Interval) (factor rest q : ℤ) (g : ℕ) → factor ≡ pos g → IsFloor g rest q
    → ((z : ℤ) → IsFrom (some_end part.lower) z ↔ (IsFrom (some_end range.lower) z × (neg_ℤ q ≤ℤ z))) → part.upper ≡ range.upper
    → IsRefined range factor rest part
refined_lower range part factor rest q g is floor lower upper = record {
  keeps = λ z holds met. record {
    from = (lower z).1 (holds.from, least z (floor_down g rest q (neg_ℤ z) floor (size z met)));
    up_to = rw upper holds.up_to;
  };
  inside = λ z holds. record { from = ((lower z).0 holds.from).0; up_to = rw (← upper) holds.up_to };
  meets = λ fits z holds. back z (floor_up g rest q (neg_ℤ z) floor (most z ((lower z).0 holds.from).1));
}
  where
    size : (z : ℤ) → pos 0 ≤ℤ (factor *ℤ z +ℤ rest) → (pos g *ℤ neg_ℤ z) ≤ℤ rest
    size z met = rw (mul_neg (pos g) z) (let spread = rw is at met in omega (arith, ints))

    back : (z : ℤ) → (pos g *ℤ neg_ℤ z) ≤ℤ rest → pos 0 ≤ℤ (factor *ℤ z +ℤ rest)
    back z le = rw is (let spread = rw (mul_neg (pos g) z) at le in omega (arith, ints))

    least : (z : ℤ) → neg_ℤ z ≤ℤ q → neg_ℤ q ≤ℤ z
    least z le = omega (arith, ints)

    most : (z : ℤ) → neg_ℤ q ≤ℤ z → neg_ℤ z ≤ℤ q
    most z le = omega (arith, ints)

-- where the quotient's negative does not fit the interval stays
pub refined_not : (range : Interval) (factor rest : ℤ) → factor ≡ pos 1 → rest ≡ negsuc (2 ^ 127 - 1) → IsRefined range factor rest range
refined_not range factor rest one is = record {
  keeps = λ z holds met. holds;
  inside = λ z holds. holds;
  meets = λ fits z holds. absurd (fits one is);
}
