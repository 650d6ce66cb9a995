-- The rows on the way down a tree, and the tightest of them.
use Rattle.std.specs.Prelude.{◌≡◌, ℕ, zero, suc, ◌-◌, ◌<◌, ◌≤◌, ℤ, Bool, true, int_le, List, [], ◌∷◌, ◌++◌, length, map, take, slice_index_or, slice_set, All}
use Rattle.std.specs.Prelude.{Contains, Option, None, Some, if◌then◌else◌}
use Rattle.std.specs.Ordering.{int_eq}
use Rattle.std.specs.Cmp.Lexicographic.{pointwise}
use Rattle.linear_cons.specs.Functions.{complement_of}
use Rattle.linear_cons.specs.Settling.{SameSettling, functions_of_rows}
use Rattle.linear_cons.specs.Tightest.{AreTightest}
use Rattle.linear_cons.specs.declared.row.Row.{Row}
use Rattle.decision_tree.specs.declared.trail.Change.{Change}
use Rattle.decision_tree.specs.declared.trail.Change.TheVariants.{Added, Kept, Tightened}
use Rattle.decision_tree.specs.declared.trail.Step.{Step}

-- The tightest of some rows: each is one of them, they are the tightest of the rows' functions, they settle the same, and they are no more.
pub record AreTightestOf (rows held : List Row) : Type 0 where
  pub among : All (λ row. Contains rows row) held
  pub tightest : AreTightest (functions_of_rows rows) held
  pub settling : SameSettling (functions_of_rows held) (functions_of_rows rows)
  pub few : length held ≤ length rows

-- the complement stands in place of the last row
abbrev pub IsTurned : List Row → List Row → Type 0
IsTurned old new = (front : List Row) (row : Row) → old ≡ front ++ row ∷ [] →
    (complement : Row) × (complement.affine ≡ complement_of row.affine) × (new ≡ front ++ complement ∷ [])

-- the last row is gone
abbrev pub IsShortened : List Row → List Row → Type 0
IsShortened old new = (front : List Row) (row : Row) → old ≡ front ++ row ∷ [] → new ≡ front

-- ---- how the tightest rows are kept

-- the coefficients are the same
abbrev pub same_part : Row → Row → Bool
same_part held row = pointwise int_eq held.affine.coef row.affine.coef

-- Rows with one more: beside one of its part with a constant not greater it is left out, it takes the place of one of its part with a
-- greater constant, and else it comes last.
abbrev pub tightened : List Row → Row → List Row
tightened [] row = row ∷ []
tightened (held ∷ rest) row =
    if same_part held row then (if int_le held.affine.constant row.affine.constant then held ∷ rest else row ∷ rest)
    else held ∷ tightened rest row

-- the row with another constant
abbrev pub with_constant : Row → ℤ → Row
with_constant row constant = record { affine = record { coef = row.affine.coef; constant = constant }; primitive = row.primitive }

-- the rows, of which the one at the place has another constant
abbrev pub with_constant_at : List Row → ℕ → ℤ → List Row
with_constant_at [] place constant = []
with_constant_at (row ∷ rest) zero constant = with_constant row constant ∷ rest
with_constant_at (row ∷ rest) (suc place) constant = row ∷ with_constant_at rest place constant

-- the rows before the change
abbrev pub undone : Change → List Row → List Row
undone Added rows = take (length rows - 1) rows
undone Kept rows = rows
undone (Tightened place looser) rows = with_constant_at rows place looser

-- The steps, the newest first, have led to the rows that are held, and lead back from them.
abbrev pub HaveLed : List Step → List Row → Type 0
HaveLed [] held = held ≡ []
HaveLed (step ∷ older) held =
    (length step.row.affine.coef ≡ 16) × (held ≡ tightened (undone step.change held) step.row) × HaveLed older (undone step.change held)

-- the rows of the steps
abbrev pub way_of : List Step → List Row
way_of steps = map (λ (step : Step). step.row) steps

-- where the row with the same coefficients stands, if there is one: what the rows become with one more
abbrev pub IsPlaceOf : List Row → Row → Option ℕ → Type 0
IsPlaceOf rows row None = tightened rows row ≡ rows ++ row ∷ []
IsPlaceOf rows row (Some place) =
    (place < length rows) × ((d : Row) → same_part (slice_index_or rows place d) row ≡ true) × ((d : Row) → tightened rows row ≡
    (if int_le (slice_index_or rows place d).affine.constant row.affine.constant then rows else slice_set rows place row))

-- the row is among the tightest, and the change leads back
pub record IsTightening (old : List Row) (row : Row) (change : Change) (new : List Row) : Type 0 where
  pub tighter : new ≡ tightened old row
  pub back : undone change new ≡ old

-- a step more
pub record IsEntered (old new : List Row) (steps later : List Step) (row : Row) : Type 0 where
  pub change : Change
  pub step : later ≡ steps ++ record { row = row; change = change } ∷ []
  pub tightening : IsTightening old row change new

-- the last step is gone
pub record IsLeft (old new : List Row) (steps earlier : List Step) : Type 0 where
  pub back : (front : List Step) (step : Step) → steps ≡ front ++ step ∷ [] → (earlier ≡ front) × (new ≡ undone step.change old)
  pub start : steps ≡ [] → (earlier ≡ []) × (new ≡ old)
