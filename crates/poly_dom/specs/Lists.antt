-- Lists of rows: what they imply, and what lists that grow keep.
use Rattle.std.specs.Prelude.{◌≡◌, ◌⊎◌, ◌+◌, ◌<◌, ◌≤◌, suc, ℤ, List, Contains, drop, length}
use Rattle.linear_cons.specs.declared.bounds.Bounds.{Bounds}
use Rattle.linear_cons.specs.declared.row.Row.{Row}
use Rattle.linear_cons.specs.Bounds.{LiesIn}
use Rattle.linear_cons.specs.Rows.{Meets, MeetsAll}
use Rattle.num_domain.specs.Domain.{IsStore}

-- each store that meets the rows meets the other one
abbrev pub Imply : List Row → Row → Type 0
Imply rows row = (store : List ℤ) → MeetsAll store rows → Meets store row

-- each store that meets the rows meets all the others
abbrev pub ImplyAll : List Row → List Row → Type 0
ImplyAll rows others = (store : List ℤ) → MeetsAll store rows → MeetsAll store others

-- each store that meets the rows lies between the ends
abbrev pub AreBounds : List Row → Bounds → Type 0
AreBounds rows bounds = (store : List ℤ) → IsStore store → MeetsAll store rows → LiesIn bounds store

-- a list with one more row, in which rows that others tell are left out and the oldest of 256 may be given up: it keeps to what
-- the old list and the row say, says what the row says, and says what the old list says, of 256 rows what all but the oldest say
pub record IsAdded (row : Row) (old new : List Row) : Type 0 where
  pub keeps : (store : List ℤ) → MeetsAll store old → Meets store row → MeetsAll store new
  pub met : Imply new row
  pub inside : length old < 256 → ImplyAll new old
  pub rest : length old ≡ 256 → ImplyAll new (drop 1 old)
  pub among : (other : Row) → Contains new other → Contains old other ⊎ (other ≡ row)
  pub grows : length new ≤ suc (length old)
  pub few : length new ≤ 256

-- a list with room for one more row: the old ones where there was room, and of 256 all but the oldest
pub record HasRoom (old new : List Row) : Type 0 where
  pub room : length new < 256
  pub same : length old < 256 → new ≡ old
  pub rest : length old ≡ 256 → new ≡ drop 1 old

-- a list with all rows of another one more, of which some tell others: where there is room for all it says what both lists say
pub record AddsAll (rows old new : List Row) : Type 0 where
  pub keeps : (store : List ℤ) → MeetsAll store old → MeetsAll store rows → MeetsAll store new
  pub inside : length old + length rows ≤ 256 → ImplyAll new old
  pub met : length old + length rows ≤ 256 → ImplyAll new rows
  pub grows : length new ≤ length old + length rows
  pub few : length new ≤ 256

-- a list with more rows, of those of another that the given ones imply
pub record AddsImplied (rows given old new : List Row) : Type 0 where
  pub keeps : (store : List ℤ) → MeetsAll store old → MeetsAll store rows → MeetsAll store new
  pub keeps_given : (store : List ℤ) → MeetsAll store old → MeetsAll store given → MeetsAll store new
  pub among : (row : Row) → Contains new row → Contains old row ⊎ Contains rows row
  pub few : length new ≤ 256

-- rows of two lists that both of them imply
pub record AreCommon (rows others common : List Row) : Type 0 where
  pub own : ImplyAll rows common
  pub other : ImplyAll others common
  pub among : (row : Row) → Contains common row → Contains rows row ⊎ Contains others row
  pub few : length common ≤ 256
