-- When a point may meet the rows of a path and more constraints, as far as the solver decides.
use Rattle.std.specs.Prelude.{◌⊎◌, ◌<◌, ℤ, List, [], ◌∷◌, ◌++◌, length}
use Rattle.linear_cons.specs.declared.row.Row.{Row}
use Rattle.linear_cons.specs.declared.row.RowKind.{RowKind}
use Rattle.linear_cons.specs.declared.row.RowKind.TheVariants.{Always, Never, Row as Kept}
use Rattle.decision_tree.specs.Alternatives.{Alternatives, rows_of}
use Rattle.linear_solve.specs.Answers.{IsPointOf, MayBeMany, MayBeWide}

-- rows that the solver need not decide
abbrev pub IsBeyondBounds : List Row → Type 0
IsBeyondBounds rows = (4096 < length rows) ⊎ (MayBeWide rows ⊎ MayBeMany rows)

-- a point meets the rows, or the solver need not decide them
abbrev pub MayBeMet : List Row → Type 0
MayBeMet rows = ((num : List ℤ) × ((den : ℤ) × IsPointOf rows num den)) ⊎ IsBeyondBounds rows

-- the property holds of the path with the constraints behind it, where these can be met
abbrev pub IsSoWith : (List Row → Type 0) → List Row → List RowKind → Type 0
IsSoWith Is path [] = Is path
IsSoWith Is path (Always ∷ rest) = IsSoWith Is path rest
IsSoWith Is path (Never ∷ rest) = ⊥
IsSoWith Is path (Kept row ∷ rest) = IsSoWith Is (path ++ row ∷ []) rest

-- the same of a path's rows and the constraint, and of the path's rows and one of the alternatives
abbrev pub MayBeMetWith : List Row → RowKind → Type 0
MayBeMetWith path kind = IsSoWith MayBeMet path (kind ∷ [])

abbrev pub MayBeMetWithOne : List Row → Alternatives → Type 0
MayBeMetWithOne path [] = ⊥
MayBeMetWithOne path (part ∷ rest) =
    MayBeMetWith path part.more ⊎ IsSoWith (λ way. MayBeMetWithOne way rest) path (rows_of part.same)
