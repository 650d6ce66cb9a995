-- How large the numbers of rows are: with a function put in, of complements, and in tests.
use Rattle.std.proofs.Common.{◌≡◌, ℕ, ◌+◌, ◌*◌, ◌^◌, ◌<◌, ◌≤◌, max, List, [], ◌∷◌, length, unsigned_abs, ap, ◌∙◌, arith}
use Rattle.std.proofs.Math.Nat.{add-mul, le_refl, le_trans, mul-add, mul-le-mul, mul_assoc, mul_comm, one-mul}
use Rattle.linear_cons.specs.Functions.{NumbersFit, SubstitutionFits, coefficient, complement_of, substituted}
use Rattle.linear_cons.specs.Rows.{IsRowOf, row_kind_of}
use Rattle.linear_cons.specs.declared.affine.Affine.{Affine}
use Rattle.linear_cons.specs.declared.row.Row.{Row}
use Rattle.linear_cons.specs.declared.row.RowKind.{RowKind}
use Rattle.linear_cons.specs.declared.row.RowKind.TheVariants.{Always, Never, Row as Kept}
use Rattle.linear_cons.proofs.KindLaws.{row_kind_is}
use Rattle.linear_cons.proofs.Sizes.{sizes_fit, sizes_quotient, sizes_complement, sizes_substituted, sizes_grown, substitution_fits}
use Rattle.linear_cons.specs.Sizes.{SizesAtMost, total_size}
use Rattle.linear_forms.specs.Duality.{EachOf}
use Rattle.step_meaning.specs.Syntax.{Statements}
use Rattle.control_flow.specs.Labels.{action_at, all_labels}
use Rattle.control_flow.specs.Growth.{greatest_of_conjunctions, greatest_of_rows, greatest_number, row_size, test_size}
use Rattle.control_flow.specs.Measures.{greatest_below}
use Rattle.unroll.specs.Within.{IsWithin}
use Rattle.unroll.proofs.Keeping.{KindIs}
use Rattle.unroll.proofs.LevelSizes.{at_most_greatest}

-- ---- a row moved over an assignment

put_size : (size t k : ℕ) → (size + t * size) * k ≡ size * ((1 + t) * k)
put_size size t k =
    let left : (size + t * size) * k ≡ size * k + t * size * k = add-mul size (t * size) k in
    let inner : (1 + t) * k ≡ k + t * k = add-mul 1 t k ∙ ap (λ n. n + t * k) (one-mul k) in
    let right : size * ((1 + t) * k) ≡ size * (k + t * k) = ap (λ n. size * n) inner in
    let spread : size * (k + t * k) ≡ size * k + size * (t * k) = mul-add size k (t * k) in
    let turned : t * size * k ≡ size * (t * k) = ap (λ n. n * k) (mul_comm t size) ∙ mul_assoc size t k in
    omega (arith, left, right, spread, turned)

module _ (x : ℕ) (low : x < 16) (by : Affine) (k most : ℕ) where
  quotient_within : (a : Affine) (kind : RowKind) → IsRowOf a kind → (size : ℕ) → SizesAtMost size a → size * k ≤ most → KindIs (IsWithin k most) kind
  quotient_within a Always is size sizes small = tt
  quotient_within a Never is size sizes small = tt
  quotient_within a (Kept row) is size sizes small = record { size = size; sizes = sizes_quotient size a row.affine is sizes; small = small }

  pub put_within : (row : Row) → IsWithin ((1 + total_size by) * k) most row → KindIs (IsWithin k most) (row_kind_of (substituted row.affine x by))
  put_within row own =
      let t : ℕ = total_size by in
      let small = own.small in
      let same = put_size own.size t k in
      quotient_within (substituted row.affine x by) (row_kind_of (substituted row.affine x by)) (row_kind_is (substituted row.affine x by)) (own.size + t * own.size)
      (sizes_substituted own.size row.affine x by low own.sizes) (omega (arith, small, same))

  pub put_row_fits : 1 ≤ k → most ≤ 2 ^ 100 → (row : Row) → IsWithin ((1 + total_size by) * k) most row → SubstitutionFits row.affine x by
  put_row_fits some bounded row own =
      let t : ℕ = total_size by in
      let small = own.small in
      let same = put_size own.size t k in
      let least : (own.size + t * own.size) * 1 ≤ (own.size + t * own.size) * k = mul-le-mul (le_refl (own.size + t * own.size)) some in
      substitution_fits x low by own.size row.affine own.sizes (omega (arith, small, same, least, bounded))

-- the numbers of a row's complement fit
pub turned_fits : (k most : ℕ) → 1 ≤ k → most ≤ 2 ^ 100 → (row : Row) → IsWithin k most row → NumbersFit (complement_of row.affine)
turned_fits k most some bounded row own =
    let small = own.small in
    let least : own.size * 1 ≤ own.size * k = mul-le-mul (le_refl own.size) some in
    sizes_fit (1 + own.size) (complement_of row.affine) (omega (arith, small, least, bounded)) (sizes_complement own.size row.affine own.sizes)

-- ---- the rows of a test

more_left : (m n : ℕ) → m ≤ max m n
more_left m n = omega arith

more_right : (m n : ℕ) → n ≤ max m n
more_right m n = omega arith

pub greatest_numbers : (a : Affine) → SizesAtMost (greatest_number a) a
unfolding greatest_number
greatest_numbers a = record {
  coefficients = λ i low. le_trans (at_most_greatest (λ place. unsigned_abs (coefficient a place)) 16 i low)
      (more_left (greatest_below (λ place. unsigned_abs (coefficient a place)) 16) (unsigned_abs a.constant));
  constants = more_right (greatest_below (λ place. unsigned_abs (coefficient a place)) 16) (unsigned_abs a.constant);
}

rows_within : (k most size : ℕ) → size * k ≤ most → (rows : List Row) → greatest_of_rows rows ≤ size → EachOf (IsWithin k most) rows
rows_within k most size small [] enough = tt
rows_within k most size small (row ∷ rest) enough = (
  record { size = size; sizes = sizes_grown (greatest_number row.affine) size row.affine (omega (arith, enough)) (greatest_numbers row.affine); small = small },
  rows_within k most size small rest (omega (arith, enough)),
)

pub conjunctions_within : (k most size : ℕ) → size * k ≤ most → (list : List (List Row)) → greatest_of_conjunctions list ≤ size → EachOf (EachOf (IsWithin k most)) list
conjunctions_within k most size small [] enough = tt
conjunctions_within k most size small (rows ∷ rest) enough =
    (rows_within k most size small rows (omega (arith, enough)), conjunctions_within k most size small rest (omega (arith, enough)))

-- no number in a row of a label's test is above that of all of them
pub test_least : (body : Statements) (l : ℕ) → l < length (all_labels body) → row_size (action_at body l) ≤ test_size body
test_least body l low =
    let own = at_most_greatest (λ label. row_size (action_at body label)) (length (all_labels body)) l low in omega (arith, own)
