-- The bounds that rows state.
use Rattle.std.specs.Prelude.{◌≡◌, ◌≢◌, ◌==◌, ℕ, ◌+◌, ◌*◌, ◌-◌, ◌/◌, ◌^◌, ◌<◌, ◌≤◌, ℤ, pos, negsuc, ◌+ℤ◌, ◌-ℤ◌, ◌*ℤ◌, ◌≤ℤ◌, ◌<ℤ◌, List, length, Some, int_lt, unsigned_abs}
use Rattle.std.specs.Prelude.{if◌then◌else◌}
use Rattle.linear_cons.specs.declared.bounds.Bounds.{Bounds}
use Rattle.linear_cons.specs.declared.row.Row.{Row}
use Rattle.linear_cons.specs.Bounds.{IsUpTo, LiesIn}
use Rattle.linear_cons.specs.Functions.{value_at}
use Rattle.linear_cons.specs.Numbers.{Fits128, number_at}
use Rattle.linear_cons.specs.Rows.{Meets, MeetsAll}
use Rattle.num_domain.specs.declared.bound.Bound.{Bound}
use Rattle.num_domain.specs.Ends.{some_end}
use Rattle.octagon_dom.specs.declared.stated.Stated.{Stated}
use Rattle.octagon_dom.specs.Cells.{AreCellsOf, IsBelow, signed, tightened, turned}
use Rattle.octagon_dom.specs.Terms.{IsOctagonal}

-- it is a bound on two signed places
pub record IsBetweenTwo (stated : Stated) : Type 0 where
  pub from : stated.high < 32
  pub to : stated.low < 32
  pub apart : stated.high ≢ stated.low

-- the store keeps to the bound
abbrev pub HoldsIn : Stated → List ℤ → Type 0
HoldsIn stated store = IsUpTo (some_end stated.step) (signed store stated.high -ℤ signed store stated.low)

-- the bound is entered, and then its twin: each of the two shortens the ways between all signed places
pub record AreEntered (old : List (Bound ℤ)) (stated : Stated) (new : List (Bound ℤ)) : Type 0 where
  pub between : List (Bound ℤ)
  pub own : AreCellsOf (tightened old stated.high stated.low (some_end stated.step)) between
  pub twin : AreCellsOf (tightened between (turned stated.low) (turned stated.high) (some_end stated.step)) new

-- the number is at least -2^126 and below 2^126: twice the number fits 128 bits
pub record IsHalfSized (c : ℤ) : Type 0 where
  pub from : negsuc (2 ^ 126 - 1) ≤ℤ c
  pub below : c <ℤ pos (2 ^ 126)

-- cells after rows were met: a store is below them where it is below the old ones and meets all rows, and only where it is below the old ones
pub record AreMet (rows : List Row) (old new : List (Bound ℤ)) : Type 0 where
  pub long : length new ≡ 1024
  pub keeps : (store : List ℤ) → IsBelow old store → MeetsAll store rows → IsBelow new store
  pub inside : (store : List ℤ) → IsBelow new store → IsBelow old store

-- each store below the cells meets the row, if that states a bound whose double fits
abbrev pub MeetsStated : Row → List (Bound ℤ) → Type 0
MeetsStated row cells =
    IsOctagonal row.affine → IsHalfSized row.affine.constant → (store : List ℤ) → IsBelow cells store → Meets store row

-- the number, twice where both signed places are those of one place
abbrev pub doubled : ℕ → ℕ → ℤ → ℤ
doubled i j z = if i / 2 == j / 2 then z +ℤ z else z

-- the row states the upper bound c on the signed place i less j: its function is c + j - i, which is twice it where it has one variable
pub record StatesAt (row : Row) (i j : ℕ) (c : ℤ) : Type 0 where
  pub from : i < 32
  pub to : j < 32
  pub apart : i ≢ j
  pub line : (store : List ℤ) → c +ℤ signed store j -ℤ signed store i ≡ doubled i j (value_at row.affine store)

-- the row states the bound: the stores that meet the row are those that keep to the bound, if its number fits
pub record IsStatedBy (row : Row) (stated : Stated) : Type 0 where
  pub between : IsBetweenTwo stated
  pub keeps : (store : List ℤ) → Meets store row → HoldsIn stated store
  pub exact : (c : ℤ) → some_end stated.step ≡ Some c → (store : List ℤ) → HoldsIn stated store → Meets store row
  pub fits : IsHalfSized row.affine.constant → (c : ℤ) × (some_end stated.step ≡ Some c)
  pub most : ℤ
  pub sized : unsigned_abs most ≤ 2 * unsigned_abs row.affine.constant
  pub states : StatesAt row stated.high stated.low most
  pub known : (end : ℤ) → some_end stated.step ≡ Some end → end ≡ most
  pub told : Fits128 most → some_end stated.step ≡ Some most

-- the signed place that has the sign of the factor
abbrev pub signed_place : ℤ → ℕ → ℕ
signed_place factor place = if int_lt factor (pos 0) then 2 * place + 1 else 2 * place

-- where the factor times the number at the place is at least the negative of the rest, the bound holds
pub record IsRefining (factor rest : ℤ) (place : ℕ) (stated : Stated) : Type 0 where
  pub between : IsBetweenTwo stated
  pub keeps : (store : List ℤ) → pos 0 ≤ℤ (factor *ℤ number_at store place +ℤ rest) → HoldsIn stated store

-- where the bounds hold, the row implies the bound
pub record IsImpliedBy (row : Row) (bounds : Bounds) (stated : Stated) : Type 0 where
  pub between : IsBetweenTwo stated
  pub keeps : (store : List ℤ) → LiesIn bounds store → Meets store row → HoldsIn stated store
