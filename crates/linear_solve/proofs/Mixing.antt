-- The combination of two rows: which places it has, its value at a point, and what it keeps of a row.
use Rattle.std.proofs.Common.{◌≡◌, ℕ, ◌<◌, ℤ, pos, negsuc, ◌+ℤ◌, ◌-ℤ◌, ◌*ℤ◌, ◌≤ℤ◌, ◌<ℤ◌, List, refl, sym, ◌∙◌, arith}
use Rattle.std.proofs.lemmas.Int.{ints, by_lt_z}
use Rattle.linear_cons.specs.declared.affine.Affine.{Affine}
use Rattle.linear_cons.specs.declared.row.Row.{Row}
use Rattle.linear_cons.specs.declared.row.RowKind.{RowKind}
use Rattle.linear_cons.specs.declared.row.RowKind.TheVariants.{Always, Never, Row as Kept}
use Rattle.linear_cons.specs.Functions.{coefficient, form_at, multiple_of, value_at}
use Rattle.linear_cons.specs.LinearForm.{linear_form}
use Rattle.linear_cons.specs.Rows.{IsRowOf, MeetsKind, PointMeets}
use Rattle.linear_cons.proofs.Forms.{form_multiple, form_sum, products_zero}
use Rattle.linear_cons.proofs.Places.{number_at_places}
use Rattle.linear_cons.proofs.Ring.{mul_commutes, mul_le, mul_nonnegative, mul_sub, mul_zero, zero_mul}
use Rattle.linear_cons.proofs.RowLaws.{constant_value, quotient_point, quotient_same_stores}
use Rattle.linear_solve.specs.Elimination.{IsLower, IsUpper, mixture, opposite}

-- the coefficient of a combination
pub mixture_coefficient : (lower upper : Row) (place i : ℕ) → i < 16 → coefficient (mixture lower upper place) i ≡ coefficient lower.affine i *ℤ opposite (coefficient upper.affine place) +ℤ coefficient upper.affine i *ℤ coefficient lower.affine place
mixture_coefficient lower upper place i h = simp (number_at_places)

-- the place cancels out
pub mixture_cancels : (lower upper : Row) (place : ℕ) → place < 16 → coefficient (mixture lower upper place) place ≡ pos 0
mixture_cancels lower upper place h =
    let l = coefficient lower.affine place in
    let u = coefficient upper.affine place in
    rw (mixture_coefficient lower upper place place h, mul_sub l (pos 0) u, mul_zero l, mul_commutes u l) (omega (arith, ints))

-- a place that neither has is not in the combination
pub mixture_unmentioned : (lower upper : Row) (place i : ℕ) → i < 16 → coefficient lower.affine i ≡ pos 0 → coefficient upper.affine i ≡ pos 0 → coefficient (mixture lower upper place) i ≡ pos 0
mixture_unmentioned lower upper place i h none also =
    rw (mixture_coefficient lower upper place i h, none, also, zero_mul, zero_mul) refl

-- the form of a combination
pub mixture_form : (lower upper : Row) (place : ℕ) (num : List ℤ) (den : ℤ) → form_at (mixture lower upper place) num den ≡ opposite (coefficient upper.affine place) *ℤ form_at lower.affine num den +ℤ coefficient lower.affine place *ℤ form_at upper.affine num den
mixture_form lower upper place num den =
    let first = multiple_of lower.affine (opposite (coefficient upper.affine place)) in
    let second = multiple_of upper.affine (coefficient lower.affine place) in
    rw (form_sum first second num den, form_multiple lower.affine (opposite (coefficient upper.affine place)) num den, form_multiple upper.affine (coefficient lower.affine place) num den) refl

-- a point that meets two rows meets their combination
pub mixture_met : (lower upper : Row) (place : ℕ) (num : List ℤ) (den : ℤ) → IsLower place lower → IsUpper place upper → PointMeets num den lower → PointMeets num den upper → pos 0 ≤ℤ form_at (mixture lower upper place) num den
mixture_met lower upper place num den below above met also =
    let factor : pos 0 ≤ℤ opposite (coefficient upper.affine place) = omega (arith, ints) in
    let other : pos 0 ≤ℤ coefficient lower.affine place = omega (arith, ints) in
    let p = mul_nonnegative (opposite (coefficient upper.affine place)) (form_at lower.affine num den) factor met in
    let q = mul_nonnegative (coefficient lower.affine place) (form_at upper.affine num den) other also in
    rw (mixture_form lower upper place num den) (omega (arith, ints))

-- ---- what is a row of a function

-- a store that meets the function meets its row
pub kind_met : (a : Affine) (kind : RowKind) → IsRowOf a kind → (store : List ℤ) → pos 0 ≤ℤ value_at a store → MeetsKind store kind
kind_met a Always is store met = tt
kind_met a Never is store met = absurd (let value = constant_value a store is.0 in let low = is.1 in omega (arith, ints))
kind_met a (Kept row) is store met = (quotient_same_stores a row.affine is store).1 met

-- a point that meets the row meets the function
pub kept_point : (a : Affine) (row : Row) → IsRowOf a (Kept row) → (num : List ℤ) (den : ℤ) → pos 0 <ℤ den → PointMeets num den row → pos 0 ≤ℤ form_at a num den
kept_point a row is num den positive met =
    quotient_point a row.affine is num den (omega (arith, ints)) met

-- a constant function that is not negative is met by every point
pub always_point : (a : Affine) → IsRowOf a Always → (num : List ℤ) (den : ℤ) → pos 0 <ℤ den → pos 0 ≤ℤ form_at a num den
unfolding linear_form
always_point a is num den positive =
    let zero_sum = products_zero 16 a.coef num is.0 in
    let product = mul_nonnegative a.constant den is.1 (omega (arith, ints)) in
    omega (arith, ints, zero_sum)

-- where a function has no place, neither has its row
pub kept_unmentioned : (a : Affine) (row : Row) → IsRowOf a (Kept row) → (i : ℕ) → i < 16 → coefficient a i ≡ pos 0 → coefficient row.affine i ≡ pos 0
kept_unmentioned a row is i h none =
    let e : pos is.divisor *ℤ coefficient row.affine i ≡ pos 0 = sym (is.coefficients i h) ∙ none in
    by_lt_z (coefficient row.affine i) (pos 0)
    (λ less. absurd (let p = mul_le (pos is.divisor) (coefficient row.affine i) (negsuc 0) (omega (arith, ints)) (omega (arith, ints)) in let q = mul_neg_one is.divisor in let k = is.positive in omega (arith, ints)))
    (λ from. by_lt_z (pos 0) (coefficient row.affine i)
    (λ more. absurd (let p = mul_le (pos is.divisor) (pos 1) (coefficient row.affine i) (omega (arith, ints)) (omega (arith, ints)) in let q = mul_one_is is.divisor in let k = is.positive in omega (arith, ints)))
    (λ to. omega (arith, ints)))
  where
    mul_one_is : (g : ℕ) → pos g *ℤ pos 1 ≡ pos g
    mul_one_is g = omega (arith, ints)

    mul_neg_one : (g : ℕ) → pos g *ℤ negsuc 0 ≡ pos 0 -ℤ pos g
    mul_neg_one g = omega (arith, ints)
