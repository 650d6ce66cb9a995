-- What a function becomes where it is extrapolated along a row, from the function on the row's other side.
use Rattle.std.specs.Prelude.{ℤ, ⊤}
use Rattle.linear_cons.specs.Functions.{NumbersFit, difference_of, multiple_of, sum_of}
use Rattle.linear_cons.specs.Rows.{row_kind_of}
use Rattle.linear_cons.specs.declared.affine.Affine.{Affine}
use Rattle.linear_cons.specs.declared.row.Row.{Row}
use Rattle.linear_cons.specs.declared.row.RowKind.{RowKind}
use Rattle.linear_cons.specs.declared.row.RowKind.TheVariants.{Always, Never, Row as Kept}

-- the function with the number times the row's function added, where the constraint that the number's function sets always holds
abbrev pub risen_by : RowKind → Row → ℤ → Affine → Affine
risen_by Always row d function = sum_of function (multiple_of row.affine d)
risen_by Never row d function = function
risen_by (Kept other) row d function = function

-- `function + d * row` where the function is `below + d`, for a constant d that is at least 0; else the function
abbrev pub along : Row → Affine → Affine → Affine
along row below function = risen_by (row_kind_of (difference_of function below)) row (difference_of function below).constant function

-- ---- where no number that is formed is outside 128 bits

abbrev pub RisenByFits : RowKind → Row → ℤ → Affine → Type 0
RisenByFits Always row d function = NumbersFit (multiple_of row.affine d) × NumbersFit (sum_of function (multiple_of row.affine d))
RisenByFits Never row d function = ⊤
RisenByFits (Kept other) row d function = ⊤

abbrev pub AlongFits : Row → Affine → Affine → Type 0
AlongFits row below function =
    NumbersFit (difference_of function below)
    × RisenByFits (row_kind_of (difference_of function below)) row (difference_of function below).constant function
