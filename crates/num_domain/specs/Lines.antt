-- The rows of affine functions, each where it is at least 0.
use Rattle.std.specs.Prelude.{List, [], ◌∷◌, ◌++◌}
use Rattle.linear_cons.specs.declared.affine.Affine.{Affine}
use Rattle.linear_cons.specs.declared.row.Row.{Row}
use Rattle.linear_cons.specs.declared.row.RowKind.{RowKind}
use Rattle.linear_cons.specs.declared.row.RowKind.TheVariants.{Always, Never, Row as Kept}
use Rattle.linear_cons.specs.Rows.{row_kind_of}

-- the row of a constraint that is one
abbrev pub row_list : RowKind → List Row
row_list Always = []
row_list Never = []
row_list (Kept row) = row ∷ []

-- the rows of the functions, each where it is at least 0
abbrev pub rows_of_lines : List Affine → List Row
rows_of_lines [] = []
rows_of_lines (a ∷ lines) = row_list (row_kind_of a) ++ rows_of_lines lines
