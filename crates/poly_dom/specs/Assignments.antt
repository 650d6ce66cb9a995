-- Rows before and after an assignment.
use Rattle.std.specs.Prelude.{◌≡◌, ℕ, ◌≤◌, ℤ, pos, ◌+ℤ◌, ◌-ℤ◌, ◌*ℤ◌, ◌≤ℤ◌, List, length, slice_set}
use Rattle.linear_cons.specs.declared.affine.Affine.{Affine}
use Rattle.linear_cons.specs.declared.bounds.Linear.{Linear}
use Rattle.linear_cons.specs.declared.row.Row.{Row}
use Rattle.linear_cons.specs.Bounds.{Covers, end_of}
use Rattle.linear_cons.specs.Functions.{coefficient, value_at}
use Rattle.linear_cons.specs.Numbers.{number_at}
use Rattle.linear_cons.specs.Rows.{Meets, MeetsAll}
use Rattle.num_domain.specs.Domain.{IsStore}

-- a store that meets the old rows meets the new ones with any number that the expression may have put at the place
abbrev pub HoldAfter : ℕ → Linear → List Row → List Row → Type 0
HoldAfter place value old new = (store : List ℤ) (z : ℤ) → IsStore store → Covers value store z → MeetsAll store old
    → MeetsAll (slice_set store place z) new

-- a store that meets the old row meets the new one then
abbrev pub HoldsAfter : ℕ → Linear → Row → Row → Type 0
HoldsAfter place value old new = (store : List ℤ) (z : ℤ) → IsStore store → Covers value store z → Meets store old
    → Meets (slice_set store place z) new

-- `by` times a function and `times` times what the expression reads of the old number
abbrev pub read_with : Affine → ℤ → ℕ → Linear → ℤ → List ℤ → ℤ
read_with rest by place value times store =
    by *ℤ value_at rest store +ℤ times *ℤ (coefficient value.affine place *ℤ number_at store place)

-- a store where that is at least 0 meets the row then
abbrev pub IsCarried : Affine → ℤ → ℕ → Linear → ℤ → Row → Type 0
IsCarried rest by place value times row = (store : List ℤ) (z : ℤ) → IsStore store → Covers value store z
    → pos 0 ≤ℤ read_with rest by place value times store → Meets (slice_set store place z) row

-- the expression's function with one of its ends: `times` times what a value is beyond it is at least 0
pub record IsBounding (value : Linear) (times : ℤ) (ended : Affine) : Type 0 where
  pub end : ℤ
  pub is : ended ≡ end_of value end
  pub beyond : (store : List ℤ) (z : ℤ) → Covers value store z → pos 0 ≤ℤ (times *ℤ (z -ℤ value_at value.affine store -ℤ end))

-- a list with more rows, which hold then where the given ones did before
pub record AddsAfter (place : ℕ) (value : Linear) (given old new : List Row) : Type 0 where
  pub keeps : (store : List ℤ) (z : ℤ) → IsStore store → Covers value store z → MeetsAll store given
      → MeetsAll (slice_set store place z) old → MeetsAll (slice_set store place z) new
  pub few : length new ≤ 256
