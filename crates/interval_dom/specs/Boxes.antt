-- Boxes: what lies between the ends, and the rows of the ends.
use Rattle.std.specs.Prelude.{◌⊎◌, ◌≤ℤ◌, IsSomeAnd, ◌≡◌, ◌≢◌, ℕ, zero, suc, ◌<◌, ◌-◌, ◌^◌, ℤ, pos, negsuc, neg_ℤ, ◌+ℤ◌, ◌*ℤ◌, List, [], ◌∷◌}
use Rattle.std.specs.Prelude.{◌++◌, ◌↔◌, IsTrue, Bool, false, map, if◌then◌else◌, take, Option, None, Some, ◌==◌}
use Rattle.std.specs.List.{list_any}
use Rattle.std.specs.Ordering.{int_eq}
use Rattle.linear_cons.specs.declared.affine.Affine.{Affine}
use Rattle.linear_cons.specs.declared.bounds.Bounds.{Bounds}
use Rattle.linear_cons.specs.declared.bounds.Linear.{Linear}
use Rattle.linear_cons.specs.declared.row.Row.{Row}
use Rattle.linear_cons.specs.Bounds.{IsFrom, IsUpTo, LiesIn, lower_end, upper_end}
use Rattle.linear_cons.specs.Ends.{exactly, greatest_value, least_value}
use Rattle.linear_cons.specs.Functions.{Mentions, MentionsOnly, coefficient, without}
use Rattle.linear_cons.specs.Numbers.{at_places, number_at}
use Rattle.linear_cons.specs.Rows.{Meets}
use Rattle.num_domain.specs.Domain.{AllMeet, IsStore, Within}
use Rattle.num_domain.specs.Ends.{some_end}
use Rattle.num_domain.specs.Lines.{rows_of_lines}
use Rattle.interval_dom.specs.declared.boxes.Boxes.{Boxes}
use Rattle.interval_dom.specs.declared.interval.Interval.{Interval}
use Rattle.interval_dom.specs.Intervals.{EndFits, Holds, IsMetIn, is_void}

-- an interval's two ends
abbrev pub ends_of : Interval → Option ℤ × Option ℤ
ends_of range = (some_end range.lower, some_end range.upper)

-- the ends of a box
abbrev pub bounds_of : Boxes → Bounds
bounds_of box = record { ends = map ends_of box.intervals }

-- a store is a member exactly where it lies between the ends
abbrev pub Has : Boxes → List ℤ → Type 0
Has box = LiesIn (bounds_of box)

-- the test that some of the sixteen places has no number between its ends
abbrev pub is_empty_box : Boxes → Bool
is_empty_box box = list_any is_void (take 16 box.intervals)

-- the least box that has the members of both: each box that has them has its members too
abbrev pub IsLeastOf : (List ℤ → Type 0) → (List ℤ → Type 0) → (List ℤ → Type 0) → Type 0
IsLeastOf a b least = (bounds : Bounds) → Within a (LiesIn bounds) → Within b (LiesIn bounds) → Within least (LiesIn bounds)

-- an end of the old box that the newer one keeps to stays, and every other end is the old one or missing
pub record IsWidening (old newer wide : Bounds) : Type 0 where
  pub stable_lower : (i : ℕ) (m : ℤ) → i < 16 → lower_end old i ≡ Some m → IsSomeAnd (lower_end newer i) (λ end. m ≤ℤ end)
      → lower_end wide i ≡ Some m
  pub stable_upper : (i : ℕ) (m : ℤ) → i < 16 → upper_end old i ≡ Some m → IsSomeAnd (upper_end newer i) (λ end. end ≤ℤ m)
      → upper_end wide i ≡ Some m
  pub no_new_lower : (i : ℕ) → i < 16 → (lower_end wide i ≡ lower_end old i) ⊎ (lower_end wide i ≡ None)
  pub no_new_upper : (i : ℕ) → i < 16 → (upper_end wide i ≡ upper_end old i) ⊎ (upper_end wide i ≡ None)

-- that, for boxes that both have members
abbrev pub WidensFilled : Boxes → Boxes → Boxes → Type 0
WidensFilled old newer wide =
    is_empty_box old ≡ false → is_empty_box newer ≡ false → IsWidening (bounds_of old) (bounds_of newer) (bounds_of wide)

-- the ends at every other place are the old ones
abbrev pub KeepsOtherEnds : ℕ → Bounds → Bounds → Type 0
KeepsOtherEnds place old new = (i : ℕ) → i ≢ place → (lower_end new i ≡ lower_end old i) × (upper_end new i ≡ upper_end old i)

-- no variable but that of the place occurs in the row, and its constant is not -2^127: the end that it asks for fits
pub record HasOneEnd (row : Row) (place : ℕ) : Type 0 where
  pub inside : place < 16
  pub alone : MentionsOnly place row.affine
  pub fits : row.affine.constant ≢ negsuc (2 ^ 127 - 1)

-- each member meets such a row
abbrev pub MeetsAlone : Row → (List ℤ → Type 0) → Type 0
MeetsAlone row has = (place : ℕ) → HasOneEnd row place → AllMeet row has

-- the greatest value of the function's terms at the other places, with its constant, over the bounds
abbrev pub others_greatest : Affine → ℕ → Bounds → Option ℤ
others_greatest a place bounds = greatest_value (exactly (without a place)) bounds

-- the number is between the ends at the place
abbrev pub LiesAt : Bounds → ℕ → ℤ → Type 0
LiesAt bounds place z = IsFrom (lower_end bounds place) z × IsUpTo (upper_end bounds place) z

-- at each place that the row mentions, the new ends leave only numbers with which the row is met where its other terms have their greatest
-- value over the old ends; it is asked where there is this value and the end that comes of it fits
abbrev pub RefinesEnds : Row → Bounds → Bounds → Type 0
RefinesEnds row old new =
    (place : ℕ) (rest : ℤ) → place < 16 → Mentions place row.affine → others_greatest row.affine place old ≡ Some rest
    → EndFits (coefficient row.affine place) rest → (z : ℤ) → LiesAt new place z → pos 0 ≤ℤ (coefficient row.affine place *ℤ z +ℤ rest)

-- an interval at a place and the part of it that the row leaves, where the other places are in the bounds: the row's other terms give their
-- greatest value, which is the constant of a row of one variable
pub record IsPartFor (row : Row) (bounds : Bounds) (place : ℕ) (range part : Interval) : Type 0 where
  pub keeps : (store : List ℤ) → LiesIn bounds store → Meets store row → Holds range (number_at store place)
      → Holds part (number_at store place)
  pub inside : (z : ℤ) → Holds part z → Holds range z
  pub refined : (rest : ℤ) → Mentions place row.affine → others_greatest row.affine place bounds ≡ Some rest
      → IsMetIn part (coefficient row.affine place) rest
  pub known : MentionsOnly place row.affine → others_greatest row.affine place bounds ≡ Some row.affine.constant

-- the new ends at the place are the least and the greatest value of the expression over the old ends
abbrev pub SetsEnds : ℕ → Linear → Bounds → Bounds → Type 0
SetsEnds place value old new =
    (lower_end new place ≡ least_value value old) × (upper_end new place ≡ greatest_value value old)

-- that, for an old box that has members
abbrev pub SetsHull : ℕ → Linear → Boxes → Boxes → Type 0
SetsHull place value old new = is_empty_box old ≡ false → SetsEnds place value (bounds_of old) (bounds_of new)

-- the test is true exactly where the set has no store
abbrev pub TellsEmpty : Bool → (List ℤ → Type 0) → Type 0
TellsEmpty b has = IsTrue b ↔ ((store : List ℤ) → IsStore store → has store → ⊥)

-- the function `factor * x + constant` of the number at the place
abbrev pub line : ℕ → ℤ → ℤ → Affine
line place factor constant = record { coef = at_places (λ i. if i == place then factor else pos 0); constant = constant }

-- a lower end as the function `x - end`, if its number fits: only the end -2^127 has no row
abbrev pub lower_line : ℕ → Option ℤ → List Affine
lower_line place None = []
lower_line place (Some end) = if int_eq end (negsuc (2 ^ 127 - 1)) then [] else line place (pos 1) (neg_ℤ end) ∷ []

-- an upper end as the function `end - x`
abbrev pub upper_line : ℕ → Option ℤ → List Affine
upper_line place None = []
upper_line place (Some end) = line place (negsuc 0) end ∷ []

-- one function for each end at the places below n whose row fits
unfoldable pub lines_below : ℕ → Bounds → List Affine
lines_below zero bounds = []
lines_below (suc n) bounds = lines_below n bounds ++ lower_line n (lower_end bounds n) ++ upper_line n (upper_end bounds n)

-- the rows of a box's ends
unfoldable pub rows_of : Boxes → List Row
rows_of box = rows_of_lines (lines_below 16 (bounds_of box))
