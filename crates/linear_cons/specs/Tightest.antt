-- Of rows with one linear part, the tightest: the one with the least constant, which implies the others.
use Rattle.std.specs.Prelude.{◌≡◌, ℕ, ◌<◌, ◌≤ℤ◌, List, All, AllPairs, Contains}
use Rattle.linear_cons.specs.declared.affine.Affine.{Affine}
use Rattle.linear_cons.specs.declared.row.Row.{Row}
use Rattle.linear_cons.specs.Functions.{coefficient}

-- the functions have the same coefficients
abbrev pub IsSamePart : Affine → Affine → Type 0
IsSamePart a b = (i : ℕ) → i < 16 → coefficient a i ≡ coefficient b i

-- no two rows have the same coefficients
abbrev pub AreDistinct : List Row → Type 0
AreDistinct rows = AllPairs (λ row other. ¬ IsSamePart row.affine other.affine) rows

-- one of the rows has the function's coefficients and a constant not greater, so that it implies `a >= 0`
pub record IsCovered (rows : List Row) (a : Affine) : Type 0 where
  pub row : Row
  pub row_in : Contains rows row
  pub part : IsSamePart row.affine a
  pub tighter : row.affine.constant ≤ℤ a.constant

-- of functions that are to be at least 0, the tightest for each linear part
pub record AreTightest (functions : List Affine) (rows : List Row) : Type 0 where
  pub among : All (λ row. Contains functions row.affine) rows
  pub covers : All (λ a. IsCovered rows a) functions
  pub distinct : AreDistinct rows
