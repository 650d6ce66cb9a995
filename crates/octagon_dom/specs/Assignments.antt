-- What assignments of simple expressions set.
use Rattle.std.specs.Prelude.{◌≡◌, ◌≢◌, ℕ, ◌^◌, ◌<◌, ◌≤◌, ℤ, neg_ℤ, ◌+ℤ◌, List, Option, Some, length, slice_set, unsigned_abs}
use Rattle.linear_cons.specs.declared.bounds.Linear.{Linear}
use Rattle.linear_cons.specs.Bounds.{Covers}
use Rattle.linear_cons.specs.Functions.{MentionsOnly, coefficient}
use Rattle.linear_cons.specs.Numbers.{number_at}
use Rattle.num_domain.specs.declared.bound.Bound.{Bound}
use Rattle.octagon_dom.specs.Cells.{bound, negative_end, sum_end}
use Rattle.octagon_dom.specs.Stated.{IsHalfSized}

-- how far the values of an expression are above and below those of its terms, at most
abbrev pub above_terms : Linear → Option ℤ
above_terms value = sum_end (Some value.affine.constant) value.hi

abbrev pub below_terms : Linear → Option ℤ
below_terms value = negative_end (sum_end (Some value.affine.constant) value.lo)

-- the double of each end with the constant fits 128 bits, and so does its negative
pub record FitsEnds (value : Linear) : Type 0 where
  pub upper : (end : ℤ) → value.hi ≡ Some end → IsHalfSized (value.affine.constant +ℤ end)
  pub lower : (end : ℤ) → value.lo ≡ Some end → IsHalfSized (value.affine.constant +ℤ end)
  pub turned : (end : ℤ) → value.lo ≡ Some end → IsHalfSized (neg_ℤ (value.affine.constant +ℤ end))

-- at most one variable occurs, of another place and with the coefficient 1 or -1, and the ends fit
pub record IsSimpleBeside (place : ℕ) (value : Linear) : Type 0 where
  pub other : ℕ
  pub away : other ≢ place
  pub unit : (i : ℕ) → i < 16 → unsigned_abs (coefficient value.affine i) ≤ 1
  pub alone : MentionsOnly other value.affine
  pub fits : FitsEnds value

-- each store of the set has at the place a number that the expression may have there
abbrev pub SetsValue : Linear → ℕ → (List ℤ → Type 0) → Type 0
SetsValue value place has = (store : List ℤ) → length store ≡ 16 → has store → Covers value store (number_at store place)

-- the number is at most 2^125 in size: the sum of three such numbers fits 128 bits
abbrev pub IsModerate : ℤ → Type 0
IsModerate z = unsigned_abs z ≤ 2 ^ 125

-- each bound that is there is moderate
abbrev pub HasModerateBounds : List (Bound ℤ) → Type 0
HasModerateBounds cells = (i j : ℕ) (end : ℤ) → i < 32 → j < 32 → bound cells i j ≡ Some end → IsModerate end

-- the expression is the number at the place, or its negative, plus one number, the step, which is moderate
pub record IsStepOf (place : ℕ) (value : Linear) : Type 0 where
  pub unit : unsigned_abs (coefficient value.affine place) ≡ 1
  pub alone : MentionsOnly place value.affine
  pub rest : ℤ
  pub lower : value.lo ≡ Some rest
  pub upper : value.hi ≡ Some rest
  pub step : IsModerate (value.affine.constant +ℤ rest)

-- each store of the new set comes from one of the old set: that with some number at the place, and what the expression may have there
abbrev pub ComesFromAssigned : ℕ → Linear → (List ℤ → Type 0) → (List ℤ → Type 0) → Type 0
ComesFromAssigned place value old new = (store : List ℤ) → length store ≡ 16 → new store
    → (z : ℤ) × old (slice_set store place z) × Covers value (slice_set store place z) (number_at store place)
