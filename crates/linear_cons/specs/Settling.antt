-- Which rows settle, by their linear parts alone, whether another holds.
use Rattle.std.specs.Prelude.{◌≡◌, Bool, true, false, ◌&&◌, int_le, List, map, Option, None, Some, if◌then◌else◌}
use Rattle.std.specs.List.{list_any}
use Rattle.std.specs.Ordering.{int_eq}
use Rattle.std.specs.Cmp.Lexicographic.{pointwise}
use Rattle.linear_cons.specs.declared.affine.Affine.{Affine}
use Rattle.linear_cons.specs.declared.row.Row.{Row}
use Rattle.linear_cons.specs.Functions.{complement_of}

-- the functions of rows
abbrev pub functions_of_rows : List Row → List Affine
functions_of_rows rows = map (λ (row : Row). row.affine) rows

-- the same coefficients and a constant not greater: at least 0 only where the other is
abbrev pub tells : Affine → Affine → Bool
tells given a = pointwise int_eq given.coef a.coef && int_le given.constant a.constant

-- one of the functions tells it
abbrev pub settled : List Affine → Affine → Bool
settled path a = list_any (λ given. tells given a) path

-- The row holds where one of the rows tells it, and fails where one of them tells its complement; rows that tell neither settle
-- nothing. Rows that tell both have two opposed ones among them, which no point meets: of these the row is said to hold.
abbrev pub settles : List Row → Row → Option Bool
settles rows row =
    if settled (functions_of_rows rows) row.affine then Some true
    else (if settled (functions_of_rows rows) (complement_of row.affine) then Some false else None)

-- the two lists settle the same
abbrev pub SameSettling : List Affine → List Affine → Type 0
SameSettling path other = (a : Affine) → settled path a ≡ settled other a
