-- What the answers of the solver mean.
use Rattle.std.specs.Prelude.{◌≡◌, ◌≢◌, ℕ, ◌+◌, ◌*◌, ◌<◌, ◌^◌, ◌≤◌, ℤ, pos, ◌*ℤ◌, ◌<ℤ◌, List, length, map, slice_set, All, ⊤}
use Rattle.linear_cons.specs.declared.row.Row.{Row}
use Rattle.linear_cons.specs.Exact.{IsOutside}
use Rattle.linear_cons.specs.Numbers.{number_at}
use Rattle.linear_cons.specs.Rows.{MeetsAll, PointMeetsAll}
use Rattle.linear_solve.specs.Elimination.{AreMany, IsEliminated, IsMade, IsNext}
use Rattle.linear_cons.specs.Tightest.{AreTightest}
use Rattle.linear_solve.specs.Systems.{HasOpposed, IsOctagonList, IsSized, occurring, rows_after}
use Rattle.linear_solve.specs.declared.answer.Answer.{Answer}
use Rattle.linear_solve.specs.declared.answer.Answer.TheVariants.{Empty, Point, Wide, Rows}
use Rattle.linear_solve.specs.declared.answer.Projected.{Projected}
use Rattle.linear_solve.specs.declared.answer.Projected.TheVariants.{Rows as Left, Wide as TooWide, TooMany}

-- no store meets all rows
abbrev pub HasNoStore : List Row → Type 0
HasNoStore rows = (store : List ℤ) → MeetsAll store rows → ⊥

-- num / den is a point that meets every row
pub record IsPointOf (rows : List Row) (num : List ℤ) (den : ℤ) : Type 0 where
  pub positive : pos 0 <ℤ den
  pub meets : PointMeetsAll num den rows

-- numbers may outgrow 128 bits in n eliminations and the search of a point: whatever bounds the sizes
-- of the rows' numbers, (34 * bound)^(2^(n + 1)) is above 2^126
abbrev pub MayOutgrow : ℕ → List Row → Type 0
MayOutgrow n rows = (bound : ℕ) → All (IsSized bound) rows → 2 ^ 126 < (34 * bound) ^ (2 ^ (n + 1))

-- more than 4,096 rows may be left once n places are eliminated
abbrev pub MayOverflow : ℕ → List Row → Type 0
MayOverflow n rows = 4096 < rows_after n (length rows)

-- eliminations in the order chosen come to more than 4,096 rows, no two of them with the same coefficients: the next one makes so
-- many, or what it leaves is outgrown
pub data Outgrown : List Row → Type 0 where
  makes_many : (rows : List Row) (place : ℕ) → IsNext rows place → AreMany (IsMade rows place) → Outgrown rows
  leaves_outgrown : (rows : List Row) (place : ℕ) (left : List Row) → IsNext rows place → IsEliminated rows place left → Outgrown left → Outgrown rows

-- what an answer that the numbers outgrow 128 bits excludes: opposed rows, octagon lists, small numbers
pub record MayBeWide (rows : List Row) : Type 0 where
  pub unopposed : ¬ HasOpposed rows
  pub no_octagons : ¬ IsOctagonList rows
  pub large : MayOutgrow (occurring rows) rows

-- the tightest rows of the list are outgrown
pub record TightestOutgrown (rows : List Row) : Type 0 where
  pub kept : List Row
  pub tightest : AreTightest (map (λ (row : Row). row.affine) rows) kept
  pub outgrown : Outgrown kept

-- the elimination of the place makes more than 4,096 rows of the tightest rows of the list, no two of them with the same coefficients
pub record MakesMany (rows : List Row) (place : ℕ) : Type 0 where
  pub kept : List Row
  pub tightest : AreTightest (map (λ (row : Row). row.affine) rows) kept
  pub many : AreMany (IsMade kept place)

-- what an answer that the rows are too many excludes: opposed rows, octagon lists, few rows, and lists that eliminations leave short
pub record MayBeMany (rows : List Row) : Type 0 where
  pub unopposed : ¬ HasOpposed rows
  pub no_octagons : ¬ IsOctagonList rows
  pub many : MayOverflow (occurring rows) rows
  pub outgrown : TightestOutgrown rows

-- what each answer says of the rows
abbrev pub IsAnswerTo : List Row → Answer → Type 0
IsAnswerTo rows Empty = HasNoStore rows
IsAnswerTo rows (Point num den) = IsPointOf rows num den
IsAnswerTo rows (Wide operands) = IsOutside operands × MayBeWide rows
IsAnswerTo rows (Rows count) = (4096 < count) × MayBeMany rows

-- the answer is that no store meets the rows
abbrev pub IsEmpty : Answer → Type 0
IsEmpty Empty = ⊤
IsEmpty (Point num den) = ⊥
IsEmpty (Wide operands) = ⊥
IsEmpty (Rows count) = ⊥

-- the system was decided: it has no store, or a point was found
abbrev pub IsDecided : Answer → Type 0
IsDecided Empty = ⊤
IsDecided (Point num den) = ⊤
IsDecided (Wide operands) = ⊥
IsDecided (Rows count) = ⊥

-- each store that meets the rows meets the others with any number at the place
abbrev pub KeepsStores : List Row → ℕ → List Row → Type 0
KeepsStores rows place left = (store : List ℤ) (z : ℤ) → length store ≡ 16 → MeetsAll store rows → MeetsAll (slice_set store place z) left

-- a point that meets the rows and is num / den but for the place
pub record Extends (rows : List Row) (place : ℕ) (num : List ℤ) (den : ℤ) : Type 0 where
  pub numerators : List ℤ
  pub denominator : ℤ
  pub meets : IsPointOf rows numerators denominator
  pub elsewhere : (i : ℕ) → i < 16 → i ≢ place → number_at numerators i *ℤ den ≡ number_at num i *ℤ denominator

-- each point of the others extends to one of the rows
abbrev pub PointsExtend : List Row → ℕ → List Row → Type 0
PointsExtend rows place left = (num : List ℤ) (den : ℤ) → length num ≡ 16 → IsPointOf left num den → Extends rows place num den

-- rows that stand for others without the place: at most 4,096
pub record IsProjection (rows : List Row) (place : ℕ) (left : List Row) : Type 0 where
  pub stores : KeepsStores rows place left
  pub points : PointsExtend rows place left
  pub short : length left ≤ 4096

-- what each outcome of a projection says of the rows
abbrev pub IsProjected : List Row → ℕ → Projected → Type 0
IsProjected rows place (Left left) = IsProjection rows place left.items
IsProjected rows place (TooWide operands) = IsOutside operands × (¬ IsOctagonList rows) × MayOutgrow 1 rows
IsProjected rows place (TooMany count) = (4096 < count) × (¬ IsOctagonList rows) × MayOverflow 1 rows × MakesMany rows place
