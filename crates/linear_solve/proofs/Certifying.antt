-- Multiples of rows that add up to a negative constant, and points that meet a list.
use Rattle.std.proofs.Common.{◌≡◌, ℤ, pos, ◌*ℤ◌, ◌≤ℤ◌, ◌<ℤ◌, List, arith, ap, ◌∙◌}
use Rattle.std.proofs.lemmas.Int.{ints}
use Rattle.linear_cons.specs.declared.affine.Affine.{Affine}
use Rattle.linear_cons.specs.declared.row.Row.{Row}
use Rattle.linear_cons.specs.Functions.{IsConstant, constant_of, form_at, multiple_of, sum_of}
use Rattle.linear_cons.specs.LinearForm.{linear_form}
use Rattle.linear_cons.specs.Rows.{PointMeets, PointMeetsAll}
use Rattle.linear_cons.proofs.Forms.{form_multiple, form_sum, products_zero}
use Rattle.linear_cons.proofs.Ring.{mul_commutes, mul_lt, mul_nonnegative, mul_zero, zero_mul}
use Rattle.linear_cons.proofs.Places.{number_at_places}
use Rattle.linear_solve.specs.Answers.{HasNoStore}
use Rattle.linear_solve.specs.Elimination.{IsNothing}

-- a function without a variable is its constant
pub constant_form : (a : Affine) (num : List ℤ) (den : ℤ) → IsConstant a → form_at a num den ≡ a.constant *ℤ den
unfolding linear_form
constant_form a num den none =
    let zero_sum = products_zero 16 a.coef num none in
    omega (arith, ints, zero_sum)

-- no multiple adds up to 0
pub constant_sum : (a : Affine) (num : List ℤ) (den : ℤ) → a ≡ constant_of (pos 0) → pos 0 ≤ℤ form_at a num den
constant_sum a num den is =
    let form = ap (λ (t : Affine). form_at t num den) is ∙ constant_form (constant_of (pos 0)) num den (λ i low. number_at_places (λ i. pos 0) i low) ∙ zero_mul den in
    omega (arith, ints, form)

-- a multiple more, of a row that is met
pub added_multiple : (sum next : Affine) (row : Row) (by : ℤ) (num : List ℤ) (den : ℤ) → next ≡ sum_of sum (multiple_of row.affine by) → pos 0 ≤ℤ by →
    pos 0 ≤ℤ form_at sum num den → PointMeets num den row → pos 0 ≤ℤ form_at next num den
added_multiple sum next row by num den is above old met =
    let form = ap (λ (t : Affine). form_at t num den) is ∙ form_sum sum (multiple_of row.affine by) num den in
    let part = form_multiple row.affine by num den in
    let product = mul_nonnegative by (form_at row.affine num den) above met in
    omega (arith, ints, form, part, product)

-- where the sum is a negative constant nothing meets the rows
pub nothing_of_sum : (sum : Affine) (rows : List Row) → IsConstant sum × (sum.constant <ℤ pos 0) →
    ((num : List ℤ) (den : ℤ) → pos 0 <ℤ den → PointMeetsAll num den rows → pos 0 ≤ℤ form_at sum num den) → IsNothing rows
nothing_of_sum sum rows low sums num den positive met =
    let above = sums num den positive met in
    let form = constant_form sum num den low.0 in
    let below = mul_lt den sum.constant (pos 0) positive low.1 in
    let nought = mul_zero den in
    let turned = mul_commutes den sum.constant in
    omega (arith, ints, above, form, below, nought, turned)

-- where no point meets the rows no store does
pub no_store_of_nothing : (rows : List Row) → IsNothing rows → HasNoStore rows
no_store_of_nothing rows nothing store met = nothing store (pos 1) (omega (arith, ints)) met
