-- Systems of rows: the places that occur, the sizes of the numbers, octagon lists, opposed rows.
use Rattle.std.specs.Prelude.{ℕ, zero, suc, ◌+◌, ◌*◌, ◌/◌, ◌<◌, ◌≤◌, ◌^◌, ℤ, pos, List, All, Bool, not, Contains, unsigned_abs}
use Rattle.std.specs.Prelude.{if◌then◌else◌, max}
use Rattle.std.specs.List.{list_any}
use Rattle.std.specs.Ordering.{int_eq}
use Rattle.linear_cons.specs.declared.row.Row.{Row}
use Rattle.linear_cons.specs.Functions.{coefficient}
use Rattle.linear_cons.specs.Numbers.{number_at}
use Rattle.linear_cons.specs.Rows.{AreOpposed}

-- some row has a coefficient other than 0 at the place
abbrev pub occurs : ℕ → List Row → Bool
occurs place rows = list_any (λ row. not (int_eq (coefficient row.affine place) (pos 0))) rows

-- how many of the places below n occur
unfoldable pub occurring_below : ℕ → List Row → ℕ
occurring_below zero rows = 0
occurring_below (suc n) rows = occurring_below n rows + (if occurs n rows then 1 else 0)

-- how many of the sixteen places occur
abbrev pub occurring : List Row → ℕ
occurring rows = occurring_below 16 rows

-- every number of the row is at most the bound in size
pub record IsSized (bound : ℕ) (row : Row) : Type 0 where
  pub coefficients : (i : ℕ) → i < 16 → unsigned_abs (coefficient row.affine i) ≤ bound
  pub constants : unsigned_abs row.affine.constant ≤ bound

-- the sizes of the numbers at the places below n, added up
unfoldable pub weight_below : ℕ → List ℤ → ℕ
weight_below zero numbers = 0
weight_below (suc n) numbers = weight_below n numbers + unsigned_abs (number_at numbers n)

-- an octagon row: each coefficient is 0, 1 or -1, at most two of them are not 0 (their sizes sum to
-- at most 2), and the constant is at most the bound in size (Miné, "The octagon abstract domain", 2006)
pub record IsOctagonRow (bound : ℕ) (row : Row) : Type 0 where
  pub units : (i : ℕ) → i < 16 → unsigned_abs (coefficient row.affine i) ≤ 1
  pub two : weight_below 16 row.affine.coef ≤ 2
  pub constants : unsigned_abs row.affine.constant ≤ bound

-- every row is an octagon row, with a constant of at most 2^64 in size
abbrev pub IsOctagonList : List Row → Type 0
IsOctagonList rows = All (IsOctagonRow (2 ^ 64)) rows

-- how many rows are left at most once n places are eliminated from m rows: of m rows an elimination
-- leaves at most m, or m * m / 4 where that is more (half of the rows paired with the other half)
abbrev pub rows_after : ℕ → ℕ → ℕ
rows_after zero m = m
rows_after (suc n) m = rows_after n (max m (m * m / 4))

-- two rows of the list are opposed
pub record HasOpposed (rows : List Row) : Type 0 where
  pub row : Row
  pub other : Row
  pub row_in : Contains rows row
  pub other_in : Contains rows other
  pub opposed : AreOpposed row other

-- the row is opposed to one of the list
pub record IsOpposedToOne (row : Row) (rows : List Row) : Type 0 where
  pub other : Row
  pub other_in : Contains rows other
  pub opposed : AreOpposed row other
