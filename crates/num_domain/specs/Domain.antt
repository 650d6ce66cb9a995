-- What a domain's operations keep, over the relation "the store is a member".
use Rattle.std.specs.Prelude.{◌≡◌, ℕ, ◌<◌, ◌≤◌, ◌^◌, ◌↔◌, ℤ, Bool, List, length, slice_set, unsigned_abs}
use Rattle.linear_cons.specs.declared.bounds.Bounds.{Bounds}
use Rattle.linear_cons.specs.declared.bounds.Linear.{Linear}
use Rattle.linear_cons.specs.declared.row.Row.{Row}
use Rattle.linear_cons.specs.Bounds.{Covers}
use Rattle.linear_cons.specs.Functions.{MentionsOnly}
use Rattle.linear_cons.specs.Rows.{Meets, MeetsAll}

-- a store has sixteen places
abbrev pub IsStore : List ℤ → Type 0
IsStore store = length store ≡ 16

-- the set has every store
abbrev pub HasEvery : (List ℤ → Type 0) → Type 0
HasEvery has = (store : List ℤ) → IsStore store → has store

-- each store of the one set is in the other
abbrev pub Within : (List ℤ → Type 0) → (List ℤ → Type 0) → Type 0
Within has also = (store : List ℤ) → IsStore store → has store → also store

-- the two sets have the same stores
abbrev pub SameMembers : (List ℤ → Type 0) → (List ℤ → Type 0) → Type 0
SameMembers has also = (store : List ℤ) → IsStore store → has store ↔ also store

-- each store of the old set that meets the row is in the new one
abbrev pub KeepsMeeting : Row → (List ℤ → Type 0) → (List ℤ → Type 0) → Type 0
KeepsMeeting row old new = (store : List ℤ) → IsStore store → old store → Meets store row → new store

-- each store of the old set that meets all rows is in the new one
abbrev pub KeepsMeetingAll : List Row → (List ℤ → Type 0) → (List ℤ → Type 0) → Type 0
KeepsMeetingAll rows old new = (store : List ℤ) → IsStore store → old store → MeetsAll store rows → new store

-- the members after are exactly those before that meet the row
abbrev pub IsMeet : Row → (List ℤ → Type 0) → (List ℤ → Type 0) → Type 0
IsMeet row old new = (store : List ℤ) → IsStore store → new store ↔ (old store × Meets store row)

-- the members after are exactly those before that meet all rows
abbrev pub IsMeetAll : List Row → (List ℤ → Type 0) → (List ℤ → Type 0) → Type 0
IsMeetAll rows old new = (store : List ℤ) → IsStore store → new store ↔ (old store × MeetsAll store rows)

-- the new set has each store of the old one with the number at the place replaced by any that the
-- linear expression may have there
abbrev pub KeepsAssigned : ℕ → Linear → (List ℤ → Type 0) → (List ℤ → Type 0) → Type 0
KeepsAssigned place value old new = (store : List ℤ) (z : ℤ) → IsStore store → old store → Covers value store z
    → new (slice_set store place z)

-- no variable but the place's occurs in the row, and its constant is at most 2^64 in size
pub record IsPlain (row : Row) (place : ℕ) : Type 0 where
  pub inside : place < 16
  pub alone : MentionsOnly place row.affine
  pub small : unsigned_abs row.affine.constant ≤ 2 ^ 64

-- each store of the set meets the row
abbrev pub AllMeet : Row → (List ℤ → Type 0) → Type 0
AllMeet row has = (store : List ℤ) → IsStore store → has store → Meets store row

-- no store of the set meets the row
abbrev pub NoneMeets : Row → (List ℤ → Type 0) → Type 0
NoneMeets row has = (store : List ℤ) → IsStore store → has store → Meets store row → ⊥

-- a domain's value after a call that wanted memory: its members and its answers are the old ones
pub record IsUnchanged {D : Type 0} (has : D → List ℤ → Type 0) (empty : D → Bool) (rows : D → List Row) (bounds : D
    → Bounds) (old new : D) : Type 0 where
  pub members : SameMembers (has old) (has new)
  pub same_empty : empty new ≡ empty old
  pub same_rows : rows new ≡ rows old
  pub same_bounds : bounds new ≡ bounds old
