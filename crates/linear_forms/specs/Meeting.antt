-- Stores that meet the conjunctions of a spreading, and conjunctions that exclude each other.
use Rattle.std.specs.Prelude.{ℤ, ◌⊎◌, List, [], ◌∷◌, ⊤}
use Rattle.linear_cons.specs.declared.row.Row.{Row}
use Rattle.linear_cons.specs.Rows.{Meets}

-- the store meets each row
abbrev pub MeetsEach : List ℤ → List Row → Type 0
MeetsEach store [] = ⊤
MeetsEach store (row ∷ rows) = Meets store row × MeetsEach store rows

-- the store meets each row of one of the conjunctions
abbrev pub MeetsOne : List ℤ → List (List Row) → Type 0
MeetsOne store [] = ⊥
MeetsOne store (rows ∷ more) = MeetsEach store rows ⊎ MeetsOne store more
