-- Polyhedra: their members, and the answers that they keep.
use Rattle.std.specs.Prelude.{ℤ, Bool, IsTrue, List}
use Rattle.linear_cons.specs.declared.bounds.Bounds.{Bounds}
use Rattle.linear_cons.specs.declared.row.Row.{Row}
use Rattle.linear_cons.specs.Bounds.{LiesIn}
use Rattle.linear_cons.specs.Rows.{MeetsAll}
use Rattle.num_domain.specs.Domain.{IsStore}
use Rattle.poly_dom.specs.declared.poly.Poly.{Poly}

-- the rows, the ends and the test of emptiness that a polyhedron keeps
abbrev pub rows_of : Poly → List Row
rows_of set = set.rows.items

abbrev pub bounds_of : Poly → Bounds
bounds_of set = set.bounds

abbrev pub is_empty_poly : Poly → Bool
is_empty_poly set = set.empty

-- a store is a member where it meets the rows
abbrev pub Has : Poly → List ℤ → Type 0
Has set store = IsStore store × MeetsAll store (rows_of set)

-- what is seen to be empty has no member
pub empty_none : (set : Poly) (store : List ℤ) → IsTrue (is_empty_poly set) → Has set store → ⊥
empty_none set store empty has = set.void empty store has.1

-- a member meets the rows and lies between the ends
pub rows_met : (set : Poly) (store : List ℤ) → Has set store → MeetsAll store (rows_of set)
rows_met set store has = has.1

pub bounds_lie : (set : Poly) (store : List ℤ) → Has set store → LiesIn (bounds_of set) store
bounds_lie set store has = set.around store has.0 has.1
