-- Rows: normalised constraints `e >= 0`, and where stores and points meet them.
use Rattle.std.specs.Prelude.{ℕ, zero, suc, ℤ, pos, int_lt, ◌+ℤ◌, ◌≤ℤ◌, ◌<ℤ◌, List, All, ⊤, if◌then◌else◌}
use Rattle.linear_cons.specs.declared.affine.Affine.{Affine}
use Rattle.linear_cons.specs.declared.row.Row.{Row}
use Rattle.linear_cons.specs.declared.row.RowKind.{RowKind}
use Rattle.linear_cons.specs.declared.row.RowKind.TheVariants.{Always, Never, Row as Kept}
use Rattle.linear_cons.specs.Divisor.{IsDivisorOf, divisor_of}
use Rattle.linear_cons.specs.Functions.{HasNegatives, IsConstant, IsQuotient, complement_of, form_at, quotient_by}
use Rattle.linear_cons.specs.Laws.Primitive.{divisor_is, primitive_complement, primitive_quotient}

-- the kind by the greatest common divisor of the coefficients: where that is 0 no variable occurs, and the constant's sign tells
abbrev pub kind_by : (a : Affine) (g : ℕ) → IsDivisorOf a.coef g → RowKind
kind_by a zero divisor = if int_lt a.constant (pos 0) then Never else Always
kind_by a (suc n) divisor = Kept (record { affine = quotient_by (suc n) a; primitive = primitive_quotient a n divisor })

-- what `a >= 0` is as a row: `IsRowOf` holds of this kind and of no other
unfoldable pub row_kind_of : Affine → RowKind
row_kind_of a = kind_by a (divisor_of a.coef) (divisor_is a.coef)

-- What follows has no part in the headline.

-- the point num / den, with den above 0, meets the row: the value there, times den, is at least 0
abbrev pub PointMeets : List ℤ → ℤ → Row → Type 0
PointMeets num den row = pos 0 ≤ℤ form_at row.affine num den

-- the store meets the row: the value there is at least 0
abbrev pub Meets : List ℤ → Row → Type 0
Meets store row = PointMeets store (pos 1) row

-- the point meets every row
abbrev pub PointMeetsAll : List ℤ → ℤ → List Row → Type 0
PointMeetsAll num den rows = All (λ row. PointMeets num den row) rows

-- the store meets every row
abbrev pub MeetsAll : List ℤ → List Row → Type 0
MeetsAll store rows = All (λ row. Meets store row) rows

-- what is asked of a point: nothing, the impossible, or the row
abbrev pub PointMeetsKind : List ℤ → ℤ → RowKind → Type 0
PointMeetsKind num den Always = ⊤
PointMeetsKind num den Never = ⊥
PointMeetsKind num den (Kept row) = PointMeets num den row

-- what is asked of a store
abbrev pub MeetsKind : List ℤ → RowKind → Type 0
MeetsKind store kind = PointMeetsKind store (pos 1) kind

-- what `a >= 0` is as a row: its truth where no variable occurs, and else the quotient by
-- the greatest common divisor of the coefficients, which leaves 1 for theirs
abbrev pub IsRowOf : Affine → RowKind → Type 0
IsRowOf a Always = IsConstant a × (pos 0 ≤ℤ a.constant)
IsRowOf a Never = IsConstant a × (a.constant <ℤ pos 0)
IsRowOf a (Kept row) = IsQuotient a row.affine

-- the row that is met by exactly the stores that don't meet this one
abbrev pub complement : Row → Row
complement row = record { affine = complement_of row.affine; primitive = primitive_complement row.affine row.primitive }

-- the linear parts are negatives of each other and the constants sum below 0, so no point meets both rows
pub record AreOpposed (row other : Row) : Type 0 where
  pub negatives : HasNegatives row.affine other.affine
  pub constants : (row.affine.constant +ℤ other.affine.constant) <ℤ pos 0
