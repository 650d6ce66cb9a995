-- The laws of rows: quotients, complements, opposed rows, and when two rows are one.
use Rattle.std.proofs.Common.{◌≡◌, ℕ, ◌↔◌, ◌⊎◌, inl, inr, ℤ, pos, negsuc, ◌+ℤ◌, ◌*ℤ◌, ◌≤ℤ◌, ◌<ℤ◌, List, refl, ap, subst, arith, unsigned_abs, ◌&&◌}
use Rattle.std.proofs.lemmas.Int.{ints, by_lt_z}
use Rattle.std.proofs.Props.{props}
use Rattle.std.specs.Bool.{Decides}
use Rattle.std.specs.Ordering.{int_eq}
use Rattle.std.specs.Cmp.Lexicographic.{pointwise}
use Rattle.std.proofs.lemmas.Bool.Decides.{Decides-and, Decides-int_eq, Decides-like}
use Rattle.std.proofs.lemmas.Nat.Gcd.{dvd-zero}
use Rattle.std.proofs.lemmas.Slice.Eq.{slice_eq-Decides}
use Rattle.std.proofs.Math.Nat.{eq-zero_of_zero-dvd}
use Rattle.linear_cons.specs.LinearForm.{products_below, linear_form}
use Rattle.linear_cons.specs.Functions.{IsConstant, IsQuotient, coefficient, complement_of, form_at, value_at}
use Rattle.linear_cons.specs.Divisor.{IsDivisorOf, IsPrimitive}
use Rattle.linear_cons.specs.Rows.{AreOpposed, PointMeets}
use Rattle.linear_cons.specs.declared.affine.Affine.{Affine}
use Rattle.linear_cons.specs.declared.row.Row.{Row}
use Rattle.linear_cons.proofs.Forms.{affine_of_parts, products_multiple, products_zero, value_complement}
use Rattle.linear_cons.proofs.Ring.{mul_add, mul_assoc, mul_commutes, mul_le, mul_lt, mul_nonnegative, mul_zero}
use Rattle.linear_cons.proofs.Sums.{value_is}

-- ---- no variable occurs

pub constant_value : (a : Affine) (store : List ℤ) → IsConstant a → value_at a store ≡ a.constant
constant_value a store none =
    rw (value_is a.coef a.constant store, products_zero 16 a.coef store none) (omega (arith, ints))

-- a greatest common divisor of 0 leaves no variable
pub divisor_zero : (a : Affine) (g : ℕ) → g ≡ 0 → IsDivisorOf a.coef g → IsConstant a
divisor_zero a g none divisor i h =
    let size : unsigned_abs (coefficient a i) ≡ 0 = eq-zero_of_zero-dvd (rw none at (divisor.divides i h)) in
    omega (arith, ints)

-- ---- quotients

-- the value of a function by its quotient's: the divisor times the products, and its own constant
quotient_value : (a q : Affine) (store : List ℤ) (by : IsQuotient a q) → value_at a store ≡ pos by.divisor *ℤ products_below 16 q.coef store +ℤ a.constant
quotient_value a q store by =
    rw (value_is a.coef a.constant store, products_multiple 16 a.coef q.coef store (pos by.divisor) by.coefficients) refl

natural_above : (n : ℕ) → pos 0 ≤ℤ pos n
natural_above n = omega (arith, ints)

-- rounding a constant down loses no point above 0
kept_above : (g sum constant own : ℤ) → pos 0 ≤ℤ g → (g *ℤ constant) ≤ℤ own → pos 0 ≤ℤ (sum +ℤ constant) → pos 0 ≤ℤ (g *ℤ sum +ℤ own)
kept_above g sum constant own positive low met =
    let product : pos 0 ≤ℤ (g *ℤ sum +ℤ g *ℤ constant) = rw (← mul_add) (mul_nonnegative g (sum +ℤ constant) positive met) in
    omega (arith, ints)

-- rounding a constant down gains no whole number
kept_below : (g sum constant own : ℤ) → pos 0 ≤ℤ g → own <ℤ (g *ℤ (constant +ℤ pos 1)) → pos 0 ≤ℤ (g *ℤ sum +ℤ own) → pos 0 ≤ℤ (sum +ℤ constant)
kept_below g sum constant own positive high met =
    by_lt_z (sum +ℤ constant) (pos 0)
    (λ less.
    let next : (sum +ℤ (constant +ℤ pos 1)) ≤ℤ pos 0 = omega (arith, ints) in
    let product : (g *ℤ sum +ℤ g *ℤ (constant +ℤ pos 1)) ≤ℤ (g *ℤ pos 0) = rw (← mul_add) (mul_le g (sum +ℤ (constant +ℤ pos 1)) (pos 0) positive next) in
    absurd (let nought = mul_zero g in omega (arith, ints)))
    (λ from. from)

-- a quotient is at least 0 at the same stores
pub quotient_same_stores : (a q : Affine) → IsQuotient a q → (store : List ℤ) → (pos 0 ≤ℤ value_at q store) ↔ (pos 0 ≤ℤ value_at a store)
quotient_same_stores a q by store =
    let positive : pos 0 ≤ℤ pos by.divisor = natural_above by.divisor in
    let sum : ℤ = products_below 16 q.coef store in (
      λ met. rw (quotient_value a q store by) (kept_above (pos by.divisor) sum q.constant a.constant positive by.at_most (rw value_is at met)),
      λ met. rw value_is (kept_below (pos by.divisor) sum q.constant a.constant positive by.below_next (rw (quotient_value a q store by) at met)),
    )

-- a point that meets the quotient meets the function; a point between stores may meet the function alone
pub quotient_point : (a q : Affine) → IsQuotient a q → (num : List ℤ) (den : ℤ) → pos 0 ≤ℤ den → pos 0 ≤ℤ form_at q num den → pos 0 ≤ℤ form_at a num den
unfolding linear_form
quotient_point a q by num den above met =
    let positive : pos 0 ≤ℤ pos by.divisor = natural_above by.divisor in
    let sum : ℤ = products_below 16 q.coef num in
    let low : (pos by.divisor *ℤ (q.constant *ℤ den)) ≤ℤ (a.constant *ℤ den) =
    rw (← mul_assoc, mul_commutes (pos by.divisor *ℤ q.constant) den, mul_commutes a.constant den) (mul_le den (pos by.divisor *ℤ q.constant) a.constant above by.at_most) in
    rw (products_multiple 16 a.coef q.coef num (pos by.divisor) by.coefficients) (kept_above (pos by.divisor) sum (q.constant *ℤ den) (a.constant *ℤ den) positive low met)

-- ---- complements

-- a store meets the complement exactly where it does not meet the row
pub complement_met : (e : Affine) (store : List ℤ) → (pos 0 ≤ℤ value_at (complement_of e) store) ↔ (pos 0 ≤ℤ value_at e store → ⊥)
complement_met e store =
    let is = value_complement e store in
    (λ met holds. omega (arith, ints), λ fails. by_lt_z (value_at e store) (pos 0) (λ less. omega (arith, ints)) (λ from. absurd (fails from)))

-- a store meets the row or its complement
pub met_either : (e : Affine) (store : List ℤ) → (pos 0 ≤ℤ value_at e store) ⊎ (pos 0 ≤ℤ value_at (complement_of e) store)
met_either e store =
    let is = value_complement e store in
    by_lt_z (value_at e store) (pos 0) (λ less. inr (omega (arith, ints))) (λ from. inl from)

-- ---- opposed rows

-- no point meets two opposed rows
pub opposed_never : (row other : Row) → AreOpposed row other → (num : List ℤ) (den : ℤ) → pos 0 <ℤ den → PointMeets num den row → PointMeets num den other → ⊥
unfolding linear_form
opposed_never row other opposed num den above met also =
    let negatives : products_below 16 other.affine.coef num ≡ negsuc 0 *ℤ products_below 16 row.affine.coef num =
    products_multiple 16 other.affine.coef row.affine.coef num (negsuc 0) (λ i h. let is = opposed.negatives i h in omega (arith, ints)) in
    let constants : (den *ℤ (row.affine.constant +ℤ other.affine.constant)) <ℤ (den *ℤ pos 0) = mul_lt den (row.affine.constant +ℤ other.affine.constant) (pos 0) above opposed.constants in
    let spread = rw (mul_add, mul_commutes den row.affine.constant, mul_commutes den other.affine.constant, mul_zero) at constants in
    omega (arith, ints)

-- ---- the same row

-- there is at most one proof that numbers have no common divisor but 1
primitive_prop : (coef : List ℤ) → IsProp (IsPrimitive coef)
primitive_prop coef = hlevel props

-- two rows with one function are one row
pub row_same : (row other : Row) → row.affine ≡ other.affine → row ≡ other
row_same row other same =
    subst (λ (affine : Affine). (primitive : IsPrimitive affine.coef) → row ≡ record { affine = affine; primitive = primitive }) same
    (λ primitive. ap (λ (t : IsPrimitive row.affine.coef). let r : Row = record { affine = row.affine; primitive = t } in r) (primitive_prop row.affine.coef row.primitive primitive))
    other.primitive

-- `==` on rows and on functions tells whether they are one
pub affine_eq-Decides : (a b : Affine) → Decides (pointwise int_eq a.coef b.coef && int_eq a.constant b.constant) (a ≡ b)
affine_eq-Decides a b =
    Decides-like _ (λ (both : (a.coef ≡ b.coef) × (a.constant ≡ b.constant)). affine_of_parts a b both.0 both.1) (λ same. (ap (λ t. t.coef) same, ap (λ t. t.constant) same))
    (Decides-and _ _ (slice_eq-Decides Decides-int_eq a.coef b.coef _ refl) (Decides-int_eq a.constant b.constant))

pub row_eq-Decides : (row other : Row) → Decides (pointwise int_eq row.affine.coef other.affine.coef && int_eq row.affine.constant other.affine.constant) (row ≡ other)
row_eq-Decides row other =
    Decides-like _ (row_same row other) (λ (same : row ≡ other). ap (λ t. t.affine) same) (affine_eq-Decides row.affine other.affine)

-- a row's function has a variable
pub row_not_constant : (row : Row) → IsConstant row.affine → ⊥
row_not_constant row none =
    let all : ◌≡◌ {A = ℕ} 2 1 = row.primitive 2 (λ i h. rw (none i h) (dvd-zero 2)) in
    omega arith
