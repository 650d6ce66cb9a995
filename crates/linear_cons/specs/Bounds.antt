-- Ends: bounds on a number, on each place of a store, and on what a function leaves out.
use Rattle.std.specs.Prelude.{ℕ, ◌<◌, ℤ, ◌-ℤ◌, ◌≤ℤ◌, List, Option, None, Some, slice_index_or, ⊤}
use Rattle.linear_cons.specs.declared.bounds.Bounds.{Bounds}
use Rattle.linear_cons.specs.declared.bounds.Linear.{Linear}
use Rattle.linear_cons.specs.Numbers.{number_at}
use Rattle.linear_cons.specs.Functions.{NumbersFit, constant_of, sum_of, value_at}
use Rattle.linear_cons.specs.declared.affine.Affine.{Affine}

-- the number is at least the end; no end asks nothing
abbrev pub IsFrom : Option ℤ → ℤ → Type 0
IsFrom None z = ⊤
IsFrom (Some lo) z = lo ≤ℤ z

-- the number is at most the end; no end asks nothing
abbrev pub IsUpTo : Option ℤ → ℤ → Type 0
IsUpTo None z = ⊤
IsUpTo (Some hi) z = z ≤ℤ hi

-- What follows has no part in the headline.

-- the lower and the upper end at a place; past the last there are none
abbrev pub lower_end : Bounds → ℕ → Option ℤ
lower_end bounds i = (slice_index_or bounds.ends i (None, None)).0

abbrev pub upper_end : Bounds → ℕ → Option ℤ
upper_end bounds i = (slice_index_or bounds.ends i (None, None)).1

-- the store's number at each place is between the ends there
pub record LiesIn (bounds : Bounds) (store : List ℤ) : Type 0 where
  pub lower : (i : ℕ) → i < 16 → IsFrom (lower_end bounds i) (number_at store i)
  pub upper : (i : ℕ) → i < 16 → IsUpTo (upper_end bounds i) (number_at store i)

-- the number may be a value of the linear expression at the store: it is the affine function's value
-- plus a number between the two ends
pub record Covers (linear : Linear) (store : List ℤ) (z : ℤ) : Type 0 where
  pub lower : IsFrom linear.lo (z -ℤ value_at linear.affine store)
  pub upper : IsUpTo linear.hi (z -ℤ value_at linear.affine store)

-- the linear expression's affine function plus a number
abbrev pub end_of : Linear → ℤ → Affine
end_of linear n = sum_of linear.affine (constant_of n)

-- that function with an end, where there is the end
abbrev pub with_end : Linear → Option ℤ → Option Affine
with_end linear None = None
with_end linear (Some n) = Some (end_of linear n)

-- the numbers of that function fit 128 bits; without an end nothing is asked
abbrev pub FitsWithEnd : Linear → Option ℤ → Type 0
FitsWithEnd linear None = ⊤
FitsWithEnd linear (Some n) = NumbersFit (end_of linear n)
