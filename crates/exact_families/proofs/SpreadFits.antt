-- The numbers of each row that a test spreads to fit 128 bits: a constraint whose numbers don't is left out.
use Rattle.std.proofs.Common.{◌≡◌, ℕ, ◌<◌, ℤ, pos, negsuc, ◌+ℤ◌, ◌*ℤ◌, ◌≤ℤ◌, ◌<ℤ◌, neg_ℤ, Bool, arith}
use Rattle.std.proofs.lemmas.Int.{by_lt_z, ints}
use Rattle.step_meaning.specs.Syntax.{Expression}
use Rattle.linear_cons.specs.Functions.{IsQuotient, NumbersFit, coefficient}
use Rattle.linear_cons.specs.Numbers.{Fits128}
use Rattle.linear_cons.specs.declared.affine.Affine.{Affine}
use Rattle.linear_cons.specs.declared.bounds.Bounds.{Bounds}
use Rattle.linear_cons.specs.declared.row.Row.{Row}
use Rattle.linear_cons.proofs.Ring.{mul_add, mul_commutes, mul_le, mul_one, neg_mul}
use Rattle.linear_forms.specs.Duality.{EachOf}
use Rattle.linear_forms.specs.Spreading.{spread_of}
use Rattle.linear_forms.proofs.SpreadEach.{spread_each}

-- ---- quotients

-- a number between one that fits and 0, or -1
fits_below : (z q : ℤ) → Fits128 z → q ≤ℤ z → pos 0 ≤ℤ q → Fits128 q
fits_below (pos m) (pos n) fit most from = record { sfits = let own = fit.sfits in omega (arith, ints, own, most) }
fits_below (negsuc m) (pos n) fit most from = absurd (omega (arith, ints, most))
fits_below z (negsuc n) fit most from = absurd (omega (arith, ints, from))

fits_above : (z q : ℤ) → Fits128 z → z ≤ℤ q → q <ℤ pos 0 → Fits128 q
fits_above z (pos n) fit least less = absurd (omega (arith, ints, less))
fits_above (pos m) (negsuc n) fit least less = absurd (omega (arith, ints, least))
fits_above (negsuc m) (negsuc n) fit least less = record { sfits = let own = fit.sfits in omega (arith, ints, own, least) }

-- a number divided by a positive one and rounded down is no further from 0, or -1
floor_fits : (g : ℕ) (z q : ℤ) → 0 < g → (pos g *ℤ q) ≤ℤ z → z <ℤ (pos g *ℤ (q +ℤ pos 1)) → Fits128 z → Fits128 q
floor_fits g z q positive low high fit =
    let one : pos 1 ≤ℤ pos g = omega (arith, ints, positive) in
    by_lt_z q (pos 0)
    (λ less.
    let turned : (neg_ℤ (q +ℤ pos 1) *ℤ pos 1) ≤ℤ (neg_ℤ (q +ℤ pos 1) *ℤ pos g) = mul_le (neg_ℤ (q +ℤ pos 1)) (pos 1) (pos g) (omega (arith, ints, less)) one in
    let spread = rw (mul_one, neg_mul, mul_commutes (q +ℤ pos 1) (pos g)) at turned in
    fits_above z q fit (omega (arith, ints, high, spread, less)) less)
    (λ from.
    let grown : (q *ℤ pos 1) ≤ℤ (q *ℤ pos g) = mul_le q (pos 1) (pos g) from one in
    let spread = rw (mul_one, mul_commutes q (pos g)) at grown in
    fits_below z q fit (omega (arith, ints, low, spread)) from)

quotient_fits : (a q : Affine) → IsQuotient a q → NumbersFit a → NumbersFit q
quotient_fits a q by fit = record {
  coefficients = λ i low. coefficient_fits i low;
  constants = floor_fits by.divisor a.constant q.constant by.positive by.at_most by.below_next fit.constants;
}
  where
    coefficient_fits : (i : ℕ) → i < 16 → Fits128 (coefficient q i)
    coefficient_fits i low =
        let is = by.coefficients i low in
        let positive = by.positive in
        let next : pos by.divisor *ℤ (coefficient q i +ℤ pos 1) ≡ pos by.divisor *ℤ coefficient q i +ℤ pos by.divisor *ℤ pos 1 =
        mul_add (pos by.divisor) (coefficient q i) (pos 1) in
        let one : pos by.divisor *ℤ pos 1 ≡ pos by.divisor = mul_one (pos by.divisor) in
        floor_fits by.divisor (coefficient a i) (coefficient q i) positive (omega (arith, ints, is)) (omega (arith, ints, is, next, one, positive)) (fit.coefficients i low)

-- ---- rows

abbrev pub RowFits : Row → Type 0
RowFits row = NumbersFit row.affine

pub spread_fits : (bounds : Bounds) (c : Expression) (t : Bool) → EachOf (EachOf RowFits) (spread_of bounds c t)
spread_fits bounds c t = spread_each RowFits (λ a row by fit. quotient_fits a row.affine by fit) bounds c t
