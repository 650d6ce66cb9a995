-- Octagons: the stores below a matrix of bounds, its ends and its rows.
use Rattle.std.specs.Prelude.{◌≡◌, ℕ, zero, suc, ◌+◌, ◌*◌, ◌/◌, ◌%◌, ◌^◌, ◌<◌, ◌≤◌, ◌==◌, ◌&&◌, ℤ, pos, negsuc, neg_ℤ, ◌-ℤ◌, Bool, true, false, not}
use Rattle.std.specs.Prelude.{nat_le, List, [], ◌∷◌, ◌++◌}
use Rattle.std.specs.Prelude.{unsigned_abs, map, Option, None, Some, if◌then◌else◌}
use Rattle.std.specs.Int.{int_max}
use Rattle.std.specs.List.{range_with_len}
use Rattle.linear_cons.specs.declared.affine.Affine.{Affine}
use Rattle.linear_cons.specs.declared.bounds.Bounds.{Bounds}
use Rattle.linear_cons.specs.declared.bounds.Linear.{Linear}
use Rattle.linear_cons.specs.declared.row.Row.{Row}
use Rattle.linear_cons.specs.Bounds.{IsUpTo}
use Rattle.linear_cons.specs.Numbers.{at_places, floor_by}
use Rattle.num_domain.specs.declared.bound.Bound.{Bound}
use Rattle.num_domain.specs.Ends.{both_ends}
use Rattle.num_domain.specs.Lines.{rows_of_lines}
use Rattle.octagon_dom.specs.declared.octagon.Octagon.{Octagon}
use Rattle.octagon_dom.specs.Assignments.{ComesFromAssigned, HasModerateBounds, IsStepOf}
use Rattle.octagon_dom.specs.Cells.{AreCellsOf, IsBelow, Matrix, bound, is_void, least_end, signed, turned, widened}
use Rattle.octagon_dom.specs.Closure.{AreSized, ClosesRow, IsClosed, PassesThenCloses}
use Rattle.octagon_dom.specs.Stated.{IsHalfSized}
use Rattle.octagon_dom.specs.Terms.{IsOctagonal}

-- a store is a member exactly where it keeps to every bound
abbrev pub Has : Octagon → List ℤ → Type 0
Has set = IsBelow set.cells.items

-- the test that a bound contradicts its opposite
abbrev pub is_empty_octagon : Octagon → Bool
is_empty_octagon set = is_void set.cells.items

-- half of an upper end on twice a number, as an upper end on the number
abbrev pub upper_half : Option ℤ → Option ℤ
upper_half None = None
upper_half (Some c) = Some (floor_by 2 c)

-- half of an upper end on twice the negative of a number, as a lower end on the number
abbrev pub lower_half : Option ℤ → Option ℤ
lower_half None = None
lower_half (Some c) = Some (neg_ℤ (floor_by 2 c))

-- the ends at a place: half of the bounds between its two signed places
abbrev pub ends_at : List (Bound ℤ) → ℕ → Option ℤ × Option ℤ
ends_at cells place = (lower_half (bound cells (2 * place + 1) (2 * place)), upper_half (bound cells (2 * place) (2 * place + 1)))

-- the ends at the sixteen places
unfoldable pub bounds_of_cells : List (Bound ℤ) → Bounds
bounds_of_cells cells = record { ends = map (ends_at cells) (range_with_len 0 16) }

abbrev pub bounds_of : Octagon → Bounds
bounds_of set = bounds_of_cells set.cells.items

-- the coefficient of the place in the signed place: 1 or -1 at its own
abbrev pub signed_factor : ℕ → ℕ → ℤ
signed_factor i place = if place == i / 2 then (if i % 2 == 0 then pos 1 else negsuc 0) else pos 0

-- the function `c + j - i` of two signed places: at least 0 where i less j is at most c
abbrev pub bound_line : ℕ → ℕ → ℤ → Affine
bound_line i j c = record { coef = at_places (λ place. signed_factor j place -ℤ signed_factor i place); constant = c }

-- one line for a bound, where it is there
abbrev pub lines_of : ℕ → ℕ → Option ℤ → List Affine
lines_of i j None = []
lines_of i j (Some c) = bound_line i j c ∷ []

-- of a cell and its twin, which bound the same sum, the earlier one is listed
abbrev pub is_listed : ℕ → ℕ → Bool
is_listed i j = not (i == j) && nat_le (32 * i + j) (32 * turned j + turned i)

-- the line of the smaller bound of a cell and its twin
abbrev pub lines_at : List (Bound ℤ) → ℕ → ℕ → List Affine
lines_at cells i j =
    if is_listed i j then lines_of i j (least_end (bound cells i j) (bound cells (turned j) (turned i))) else []

-- the lines of the first n cells
unfoldable pub lines_below : ℕ → List (Bound ℤ) → List Affine
lines_below zero cells = []
lines_below (suc n) cells = lines_below n cells ++ lines_at cells (n / 32) (n % 32)

-- the rows of all bounds
unfoldable pub rows_of_cells : List (Bound ℤ) → List Row
rows_of_cells cells = rows_of_lines (lines_below 1024 cells)

abbrev pub rows_of : Octagon → List Row
rows_of set = rows_of_cells set.cells.items

-- the store keeps to each bound between the two signed places of a place
abbrev pub KeepsToEnds : List (Bound ℤ) → List ℤ → Type 0
KeepsToEnds cells store = (i : ℕ) → i < 32 → IsUpTo (bound cells i (turned i)) (signed store i -ℤ signed store (turned i))

-- the octagon's bounds
abbrev pub matrix_of : Octagon → Matrix
matrix_of set = bound set.cells.items

-- no way over a third signed place is shorter than a bound
abbrev pub IsClosedOctagon : Octagon → Type 0
IsClosedOctagon set = IsClosed (matrix_of set)

-- it carries the mark that nothing is left to close, or doesn't
abbrev pub IsMarked : Octagon → Type 0
IsMarked set = set.closed ≡ true

abbrev pub IsUnmarked : Octagon → Type 0
IsUnmarked set = set.closed ≡ false

abbrev pub HasSameMark : Octagon → Octagon → Type 0
HasSameMark old new = new.closed ≡ old.closed

-- both have the same bounds
abbrev pub AreSameBounds : Octagon → Octagon → Type 0
AreSameBounds old new = (i j : ℕ) → i < 32 → j < 32 → matrix_of new i j ≡ matrix_of old i j

-- a row of at most two variables with coefficients 1 and -1 is met exactly, and the new octagon is closed
abbrev pub MeetsClosed : Row → Octagon → Octagon → Type 0
MeetsClosed row old new = IsOctagonal row.affine → ClosesRow row old.cells.items new.cells.items

-- where the mark is missing all signed places are passed before such a row is met
abbrev pub PassesUnmarked : Row → Octagon → Octagon → Type 0
PassesUnmarked row old new = IsUnmarked old → IsOctagonal row.affine → PassesThenCloses row old.cells.items new.cells.items

-- the mark stays where such a row is met that has a constant of at most 2^122 in size, and each bound is at most 2^123
abbrev pub StaysMarked : Row → Octagon → Octagon → Type 0
StaysMarked row old new =
    IsMarked old → AreSized (2 ^ 123) old.cells.items → IsOctagonal row.affine → unsigned_abs row.affine.constant ≤ 2 ^ 122 → IsMarked new

-- each bound is the greater of the two
abbrev pub IsHull : Octagon → Octagon → Octagon → Type 0
IsHull own other hull = (i j : ℕ) → i < 32 → j < 32 → matrix_of hull i j ≡ both_ends int_max (matrix_of own i j) (matrix_of other i j)

-- that, for closed octagons: it is the least octagon round both
abbrev pub HullsClosed : Octagon → Octagon → Octagon → Type 0
HullsClosed own other hull = IsClosedOctagon own → IsClosedOctagon other → IsHull own other hull

-- of two octagons that are not seen to be empty the new one carries no mark
abbrev pub UnmarksFilled : Octagon → Octagon → Octagon → Type 0
UnmarksFilled own newer wide = is_empty_octagon own ≡ false → is_empty_octagon newer ≡ false → IsUnmarked wide

-- an own bound that the newer one doesn't pass stays, and every other one is dropped
abbrev pub IsWidening : Octagon → Octagon → Octagon → Type 0
IsWidening own newer wide = AreCellsOf (widened own.cells.items newer.cells.items) wide.cells.items

-- that, for octagons that are not seen to be empty
abbrev pub WidensFilled : Octagon → Octagon → Octagon → Type 0
WidensFilled own newer wide =
    is_empty_octagon own ≡ false → is_empty_octagon newer ≡ false → IsWidening own newer wide

-- a row that states a bound: of at most two variables, with coefficients 1 and -1 and a constant whose double fits
pub record StatesBound (row : Row) : Type 0 where
  pub shape : IsOctagonal row.affine
  pub half : IsHalfSized row.affine.constant

-- a closed octagon with moderate bounds moves with its place: its members after `x = x + c` or `x = -x + c` come from those before
abbrev pub MovesClosed : ℕ → Linear → Octagon → Octagon → Type 0
MovesClosed place value old new =
    IsClosedOctagon old → HasModerateBounds old.cells.items → IsStepOf place value → ComesFromAssigned place value (Has old) (Has new)

-- so does its mark
abbrev pub MovesMarked : ℕ → Linear → Octagon → Octagon → Type 0
MovesMarked place value old new = IsMarked old → HasModerateBounds old.cells.items → IsStepOf place value → IsMarked new
