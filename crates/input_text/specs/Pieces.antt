-- A text cut at a byte.
use Rattle.std.specs.Prelude.{ℕ, ◌==◌, List, [], ◌∷◌, Option, None, Some, if◌then◌else◌}

abbrev pub in_front : ℕ → List (List ℕ) → List (List ℕ)
in_front x [] = (x ∷ []) ∷ []
in_front x (piece ∷ more) = (x ∷ piece) ∷ more

-- what is before, between and behind such bytes
abbrev pub pieces : ℕ → List ℕ → List (List ℕ)
pieces byte [] = [] ∷ []
pieces byte (x ∷ xs) = if x == byte then [] ∷ pieces byte xs else in_front x (pieces byte xs)

-- What follows has no part in the headline.

-- those of what is behind a comma, code 44, where there is one
abbrev pub pieces_behind : Option (List ℕ) → List (List ℕ)
pieces_behind None = []
pieces_behind (Some rest) = pieces 44 rest
