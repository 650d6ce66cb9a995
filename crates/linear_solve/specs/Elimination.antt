-- One elimination: the rows that it makes, what they imply, and how many they are.
use Rattle.std.specs.Prelude.{◌≡◌, ◌⊎◌, ℕ, zero, suc, ◌+◌, ◌-◌, ◌*◌, ◌<◌, ◌≤◌, ℤ, pos, negsuc, ◌-ℤ◌, ◌<ℤ◌, ◌≤ℤ◌, List, [], ◌∷◌, length}
use Rattle.std.specs.Prelude.{All, Contains, true}
use Rattle.linear_cons.specs.declared.affine.Affine.{Affine}
use Rattle.linear_cons.specs.declared.row.Row.{Row}
use Rattle.linear_cons.specs.declared.row.RowKind.TheVariants.{Never, Row as Kept}
use Rattle.linear_cons.specs.Functions.{NumbersFit, coefficient, form_at, multiple_of, sum_of}
use Rattle.linear_cons.specs.Numbers.{Fits128}
use Rattle.linear_cons.specs.Rows.{IsRowOf, PointMeets, PointMeetsAll}
use Rattle.linear_solve.specs.Systems.{occurs}
use Rattle.linear_cons.specs.Tightest.{AreDistinct}

-- the row bounds the place from below, from above
abbrev pub IsLower : ℕ → Row → Type 0
IsLower place row = pos 0 <ℤ coefficient row.affine place

abbrev pub IsUpper : ℕ → Row → Type 0
IsUpper place row = coefficient row.affine place <ℤ pos 0

-- the size of a negative coefficient
abbrev pub opposite : ℤ → ℤ
opposite c = pos 0 -ℤ c

-- the sum of two rows' functions, each times the size of the other's coefficient at the place, which
-- cancels out where the one is positive and the other negative
abbrev pub mixture : Row → Row → ℕ → Affine
mixture lower upper place = sum_of (multiple_of lower.affine (opposite (coefficient upper.affine place)))
    (multiple_of upper.affine (coefficient lower.affine place))

-- no number of the combination lies outside 128 bits
pub record MixtureFits (lower upper : Row) (place : ℕ) : Type 0 where
  pub size : Fits128 (opposite (coefficient upper.affine place))
  pub first : NumbersFit (multiple_of lower.affine (opposite (coefficient upper.affine place)))
  pub second : NumbersFit (multiple_of upper.affine (coefficient lower.affine place))
  pub sums : NumbersFit (mixture lower upper place)

-- a row of the list from below and one from above
pub record IsPair (rows : List Row) (place : ℕ) (lower upper : Row) : Type 0 where
  pub lower_in : Contains rows lower
  pub upper_in : Contains rows upper
  pub below : IsLower place lower
  pub above : IsUpper place upper

-- the row is the combination of a pair
pub record IsMixture (rows : List Row) (place : ℕ) (row : Row) : Type 0 where
  pub lower : Row
  pub upper : Row
  pub pair : IsPair rows place lower upper
  pub normal : IsRowOf (mixture lower upper place) (Kept row)

-- the combination of some pair is met nowhere
pub record HasNeverPair (rows : List Row) (place : ℕ) : Type 0 where
  pub lower : Row
  pub upper : Row
  pub pair : IsPair rows place lower upper
  pub never : IsRowOf (mixture lower upper place) Never

-- the combination of some pair has a number outside 128 bits
pub record HasUnfitPair (rows : List Row) (place : ℕ) : Type 0 where
  pub lower : Row
  pub upper : Row
  pub pair : IsPair rows place lower upper
  pub unfit : ¬ MixtureFits lower upper place

-- the row does not have the place and is one of the list, or is the combination of a pair
abbrev pub IsMade : List Row → ℕ → Row → Type 0
IsMade rows place row = (Contains rows row × (coefficient row.affine place ≡ pos 0)) ⊎ IsMixture rows place row

-- more than 4,096 rows with the property, no two of them with the same coefficients
pub record AreMany (Is : Row → Type 0) : Type 0 where
  pub some : List Row
  pub each : (row : Row) → Contains some row → Is row
  pub distinct : AreDistinct some
  pub many : 4096 < length some

-- rows that stand for others: some of them, which imply them all, one for each linear part
pub record StandFor (rows kept : List Row) : Type 0 where
  pub among : (row : Row) → Contains kept row → Contains rows row
  pub implies : (num : List ℤ) (den : ℤ) → pos 0 <ℤ den → PointMeetsAll num den kept → PointMeetsAll num den rows
  pub distinct : AreDistinct kept
  pub short : length kept ≤ length rows

-- a list grew by rows that the elimination makes, and lost at most rows that the others imply
pub record Grows (rows : List Row) (place : ℕ) (old new : List Row) : Type 0 where
  pub among : (row : Row) → Contains new row → Contains old row ⊎ IsMade rows place row
  pub implies : (num : List ℤ) (den : ℤ) → pos 0 <ℤ den → PointMeetsAll num den new → PointMeetsAll num den old

-- the rows of the first list without the place are implied by the new list
abbrev pub ImpliesRest : List Row → ℕ → List Row → Type 0
ImpliesRest seen place new = (num : List ℤ) (den : ℤ) → pos 0 <ℤ den → PointMeetsAll num den new
    → All (λ row. coefficient row.affine place ≡ pos 0 → PointMeets num den row) seen

-- the combinations of the row with those from above are implied by the new list
abbrev pub ImpliesMixtures : Row → List Row → ℕ → List Row → Type 0
ImpliesMixtures lower seen place new = (num : List ℤ) (den : ℤ) → pos 0 <ℤ den → PointMeetsAll num den new
    → All (λ upper. IsUpper place upper → pos 0 ≤ℤ form_at (mixture lower upper place) num den) seen

-- the combinations of the pairs are implied by the new list
abbrev pub ImpliesPairs : List Row → List Row → ℕ → List Row → Type 0
ImpliesPairs seen rows place new = (num : List ℤ) (den : ℤ) → pos 0 <ℤ den → PointMeetsAll num den new
    → All (λ lower. IsLower place lower → All (λ upper. IsUpper place upper
    → pos 0 ≤ℤ form_at (mixture lower upper place) num den) rows) seen

-- 1 for a number above 0, and for one below 0, and else 0
abbrev pub one_above : ℤ → ℕ
one_above (pos zero) = 0
one_above (pos (suc n)) = 1
one_above (negsuc n) = 0

abbrev pub one_below : ℤ → ℕ
one_below (pos n) = 0
one_below (negsuc n) = 1

-- how many rows bound the place from below, and how many from above
abbrev pub lowers_of : ℕ → List Row → ℕ
lowers_of place [] = 0
lowers_of place (row ∷ rows) = one_above (coefficient row.affine place) + lowers_of place rows

abbrev pub uppers_of : ℕ → List Row → ℕ
uppers_of place [] = 0
uppers_of place (row ∷ rows) = one_below (coefficient row.affine place) + uppers_of place rows

-- how many rows do not have the place
abbrev pub others_of : ℕ → List Row → ℕ
others_of place rows = length rows - lowers_of place rows - uppers_of place rows

-- how many pairs there are of a row from below and one from above
abbrev pub pairs_of : ℕ → List Row → ℕ
pairs_of place rows = lowers_of place rows * uppers_of place rows

-- how many rows an elimination makes: the pairs, and the rows without the place
abbrev pub made_of : ℕ → List Row → ℕ
made_of place rows = pairs_of place rows + others_of place rows

-- what the elimination of a place leaves
pub record IsEliminated (rows : List Row) (place : ℕ) (left : List Row) : Type 0 where
  pub made : (row : Row) → Contains left row → IsMade rows place row
  pub rest : ImpliesRest rows place left
  pub pairs : ImpliesPairs rows rows place left
  pub distinct : AreDistinct left
  pub short : length left ≤ made_of place rows

-- no point meets the rows
abbrev pub IsNothing : List Row → Type 0
IsNothing rows = (num : List ℤ) (den : ℤ) → pos 0 <ℤ den → PointMeetsAll num den rows → ⊥

-- a place that may be eliminated next: it occurs, and no place that does has fewer pairs
abbrev pub IsNext : List Row → ℕ → Type 0
IsNext rows place = (place < 16) × (occurs place rows ≡ true)
    × ((other : ℕ) → other < 16 → occurs other rows ≡ true → pairs_of place rows ≤ pairs_of other rows)
