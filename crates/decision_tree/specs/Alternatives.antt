-- Alternatives of constraints, part by part, and the stores that meet them.
use Rattle.std.specs.Prelude.{◌⊎◌, ℕ, zero, suc, ℤ, List, [], ◌∷◌, ◌++◌, Option, None, Some, ⊤}
use Rattle.linear_cons.specs.Rows.{MeetsKind}
use Rattle.linear_cons.specs.declared.row.RowKind.{RowKind}
use Rattle.linear_cons.specs.declared.row.RowKind.TheVariants.{Never}
use Rattle.decision_tree.specs.declared.rank.Comparison.{Comparison}

-- parts in order: the first constraint of one of them, and with it those by which all parts before it are left
abbrev pub Alternatives : Type 0
Alternatives = List Comparison

-- the constraints by which a part is left, where there are some
abbrev pub rows_of : Option (List RowKind) → List RowKind
rows_of None = []
rows_of (Some kinds) = kinds

-- each alternative as the list of its constraints: behind those by which the parts before are left, and all of them
abbrev pub lists_behind : List RowKind → Alternatives → List (List RowKind)
lists_behind same [] = []
lists_behind same (part ∷ rest) = (same ++ part.more ∷ []) ∷ lists_behind (same ++ rows_of part.same) rest

abbrev pub lists_of : Alternatives → List (List RowKind)
lists_of alternatives = lists_behind [] alternatives

-- the store meets each of the constraints
abbrev pub MeetsEach : List ℤ → List RowKind → Type 0
MeetsEach store [] = ⊤
MeetsEach store (kind ∷ rest) = MeetsKind store kind × MeetsEach store rest

-- the store meets one of the alternatives
abbrev pub MeetsAny : List ℤ → Alternatives → Type 0
MeetsAny store [] = ⊥
MeetsAny store (part ∷ rest) = MeetsKind store part.more ⊎ (MeetsEach store (rows_of part.same) × MeetsAny store rest)

-- the part with the number; past the last one that which no store meets
abbrev pub part_at : Alternatives → ℕ → Comparison
part_at [] number = record { more = Never; same = None }
part_at (part ∷ rest) zero = part
part_at (part ∷ rest) (suc number) = part_at rest number
