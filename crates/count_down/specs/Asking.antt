-- Rows that stand in conjunctions.
use Rattle.std.specs.Prelude.{◌≡◌, ◌⊎◌, List, [], ◌∷◌, ⊤}
use Rattle.linear_cons.specs.declared.row.Row.{Row}

-- the row is one of the conjunction's
abbrev pub Has : Row → List Row → Type 0
Has row [] = ⊥
Has row (other ∷ more) = (other ≡ row) ⊎ Has row more

-- each conjunction has it
abbrev pub EachHas : Row → List (List Row) → Type 0
EachHas row [] = ⊤
EachHas row (rows ∷ more) = Has row rows × EachHas row more
