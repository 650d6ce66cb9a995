-- Names before numbers.
use Rattle.std.proofs.Common.{◌≡◌, ◌∙◌, ℕ, List, [], ◌∷◌, ◌++◌, drop, length, refl, ap}

pub dropped : (name rest : List ℕ) → drop (length name) (name ++ rest) ≡ rest
dropped [] rest = refl
dropped (x ∷ name) rest = dropped name rest

-- what is behind the name
pub behind_name : (name number text : List ℕ) → text ≡ name ++ number → drop (length name) text ≡ number
behind_name name number text is = ap (drop (length name)) is ∙ dropped name number
