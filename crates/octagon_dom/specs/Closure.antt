-- Closed matrices of bounds, and the closed matrix below one more bound.
use Rattle.std.specs.Prelude.{◌≡◌, ℕ, suc, ◌<◌, ◌≤◌, ◌==◌, ◌&&◌, ◌↔◌, ℤ, pos, ◌+ℤ◌, Bool, true, false, List, Option, None, Some, if◌then◌else◌, int_le, unsigned_abs}
use Rattle.linear_cons.specs.declared.row.Row.{Row}
use Rattle.linear_cons.specs.Numbers.{Fits128}
use Rattle.num_domain.specs.declared.bound.Bound.{Bound}
use Rattle.num_domain.specs.Ends.{both_ends, some_end}
use Rattle.octagon_dom.specs.declared.stated.Stated.{Stated}
use Rattle.octagon_dom.specs.Assignments.{HasModerateBounds, IsModerate}
use Rattle.octagon_dom.specs.Cells.{AreCellsOf, Matrix, bound, is_negative, is_void, least_end, tightened, turned}
use Rattle.octagon_dom.specs.Stated.{StatesAt}

-- the upper end is at most the other: a missing one is greater than every number
abbrev pub is_at_most : Option ℤ → Option ℤ → Bool
is_at_most left None = true
is_at_most None (Some b) = false
is_at_most (Some a) (Some b) = int_le a b

abbrev pub IsAtMost : Option ℤ → Option ℤ → Type 0
IsAtMost left right = is_at_most left right ≡ true

-- entry by entry
abbrev pub AreAtMost : Matrix → Matrix → Type 0
AreAtMost m n = (i j : ℕ) → i < 32 → j < 32 → IsAtMost (m i j) (n i j)

-- the sum of two ends as a whole number, however large: missing where one of them is
abbrev pub exact_sum : Option ℤ → Option ℤ → Option ℤ
exact_sum left right = both_ends (λ a b. a +ℤ b) left right

-- no way over a third signed place is shorter than a bound
abbrev pub HasNoShorterWay : Matrix → Type 0
HasNoShorterWay m = (i j k : ℕ) → i < 32 → j < 32 → k < 32 → IsAtMost (m i j) (exact_sum (m i k) (m k j))

-- that, and each signed place less itself is at most 0
pub record IsClosed (m : Matrix) : Type 0 where
  pub diagonal : (i : ℕ) → i < 32 → m i i ≡ Some (pos 0)
  pub ways : HasNoShorterWay m

-- where no cell contradicts its opposite, no way is shorter than a bound
abbrev pub IsClosedOrVoid : List (Bound ℤ) → Type 0
IsClosedOrVoid cells = is_void cells ≡ false → HasNoShorterWay (bound cells)

-- new cells are closed where the old ones are
abbrev pub KeepsClosed : List (Bound ℤ) → List (Bound ℤ) → Type 0
KeepsClosed old new = IsClosedOrVoid old → IsClosedOrVoid new

-- ---- sums that fit

-- the end is missing, or its number is at most k in size
abbrev pub IsSizedEnd : ℕ → Option ℤ → Type 0
IsSizedEnd k end = (z : ℤ) → end ≡ Some z → unsigned_abs z ≤ k

-- so is each bound
abbrev pub AreSized : ℕ → List (Bound ℤ) → Type 0
AreSized k cells = (i j : ℕ) → i < 32 → j < 32 → IsSizedEnd k (bound cells i j)

-- the end is missing or moderate
abbrev pub IsModerateEnd : Option ℤ → Type 0
IsModerateEnd end = (z : ℤ) → end ≡ Some z → IsModerate z

-- so is each bound from and to the signed place
abbrev pub IsModerateAt : Matrix → ℕ → Type 0
IsModerateAt m i = (a : ℕ) → a < 32 → IsModerateEnd (m a i) × IsModerateEnd (m i a)

-- no sum of a way over the step leaves 128 bits
abbrev pub SumsFit : Matrix → ℕ → ℕ → Option ℤ → Type 0
SumsFit m i j step = (a b : ℕ) → a < 32 → b < 32 → (x s y : ℤ) → m a i ≡ Some x → step ≡ Some s → m j b ≡ Some y
    → Fits128 (x +ℤ s) × Fits128 (x +ℤ s +ℤ y)

-- the ends are moderate and not below each other, and so is each bound: no sum of a move by them leaves 128 bits
pub record CanMove (cells : List (Bound ℤ)) (up down : Option ℤ) : Type 0 where
  pub bounds : HasModerateBounds cells
  pub above : IsModerateEnd up
  pub below : IsModerateEnd down
  pub between : is_negative up down ≡ false

-- ---- one more bound

-- one bound replaced by the smaller of it and a new one
abbrev pub with_bound : Matrix → ℕ → ℕ → Option ℤ → Matrix
with_bound m i j end a b = if a == i && b == j then least_end (m a b) end else m a b

-- the bound and its twin; between the signed places of one place they are one bound
abbrev pub with_twins : Matrix → ℕ → ℕ → Option ℤ → Matrix
with_twins m i j end = with_bound (with_bound m i j end) (turned j) (turned i) end

-- the number is a bound of the matrix
pub record IsBoundOf (m : Matrix) (z : ℤ) : Type 0 where
  pub row : ℕ
  pub column : ℕ
  pub low : row < 32
  pub also : column < 32
  pub is : m row column ≡ Some z

-- no sum of five bounds leaves 128 bits
abbrev pub FiveFit : Matrix → Type 0
FiveFit m = (v w x y z : ℤ) → IsBoundOf m v → IsBoundOf m w → IsBoundOf m x → IsBoundOf m y → IsBoundOf m z
    → Fits128 (v +ℤ w +ℤ x +ℤ y +ℤ z)

-- the matrix is the greatest closed one that is at most the other
pub record IsClosureOf (m : Matrix) (new : Matrix) : Type 0 where
  pub closed : IsClosed new
  pub below : AreAtMost new m
  pub greatest : (n : Matrix) → IsClosed n → AreAtMost n m → AreAtMost n new

-- no closed matrix is at most it
abbrev pub HasNoClosed : Matrix → Type 0
HasNoClosed m = (n : Matrix) → IsClosed n → AreAtMost n m → ⊥

-- the bound and its twin, entered: where some cell contradicts its opposite, no closed matrix is at most the old one with both; and
-- else the new cells are the greatest closed one, if the old ones are closed and no sum of five bounds leaves 128 bits
pub record EntersClosed (old : List (Bound ℤ)) (stated : Stated) (new : List (Bound ℤ)) : Type 0 where
  pub none : is_void new ≡ true → HasNoClosed (with_twins (bound old) stated.high stated.low (some_end stated.step))
  pub closure : IsClosed (bound old) → FiveFit (with_twins (bound old) stated.high stated.low (some_end stated.step))
      → is_void new ≡ false → IsClosureOf (with_twins (bound old) stated.high stated.low (some_end stated.step)) (bound new)

-- the row states a bound; of closed old cells some new cell contradicts its opposite exactly where no closed matrix is at most the old
-- one with the bound and its twin, and else the new cells are the greatest closed one, if no sum of five bounds leaves 128 bits
pub record ClosesRow (row : Row) (old new : List (Bound ℤ)) : Type 0 where
  pub high : ℕ
  pub low : ℕ
  pub most : ℤ
  pub states : StatesAt row high low most
  pub empty : IsClosed (bound old) → FiveFit (with_twins (bound old) high low (Some most))
      → (is_void new ≡ true) ↔ HasNoClosed (with_twins (bound old) high low (Some most))
  pub closure : IsClosed (bound old) → FiveFit (with_twins (bound old) high low (Some most))
      → is_void new ≡ false → IsClosureOf (with_twins (bound old) high low (Some most)) (bound new)

-- ---- all ways

-- the first n signed places are passed one after the other: each bound is the smaller of itself and its way over the place
pub data ArePassed (old : List (Bound ℤ)) : ℕ → List (Bound ℤ) → Type 0 where
  begun : ArePassed old 0 old
  passed : (n : ℕ) (between new : List (Bound ℤ)) → ArePassed old n between → AreCellsOf (tightened between n n (Some (pos 0))) new
      → ArePassed old (suc n) new

-- all of them are passed before the row's bound is entered
pub record PassesThenCloses (row : Row) (old new : List (Bound ℤ)) : Type 0 where
  pub between : List (Bound ℤ)
  pub passed : ArePassed old 32 between
  pub closes : ClosesRow row between new
