-- Rows of which splits don't tell whether a store meets them.
use Rattle.std.specs.Prelude.{◌≡◌, ◌⊎◌, ◌<◌, ℤ, List, ◌++◌, length}
use Rattle.linear_cons.specs.declared.row.Row.{Row}
use Rattle.linear_cons.specs.Rows.{MeetsAll}
use Rattle.linear_solve.specs.Answers.{MayOutgrow, MayOverflow}
use Rattle.linear_solve.specs.Systems.{IsOctagonList, occurring}
use Rattle.integer_point.specs.Splits.{AreSplits, IsWithin}
use Rattle.integer_point.specs.Wholes.{HasPointBetween}

-- a number may pass 128 bits in an elimination of the rows, or they may come to be too many
abbrev pub MayStop : List Row → Type 0
MayStop rows = (IsOctagonList rows → ⊥) × (MayOutgrow (occurring rows) rows ⊎ MayOverflow (occurring rows) rows)

-- ten splits, made one under another, leave a point between stores
pub record IsLeftBetween (rows : List Row) : Type 0 where
  pub path : List Row
  pub splits : AreSplits rows path
  pub many : length path ≡ 10
  pub between : HasPointBetween (rows ++ path)

-- so it is, or at most ten splits lead to where an elimination may stop
abbrev pub IsHard : List Row → Type 0
IsHard rows = IsLeftBetween rows ⊎ IsWithin 10 rows MayStop

-- a store meets the rows, or splits don't tell, or the rows are more than are split
abbrev pub MayHaveStore : List Row → Type 0
MayHaveStore rows = ((store : List ℤ) × MeetsAll store rows) ⊎ IsHard rows ⊎ (4086 < length rows)
