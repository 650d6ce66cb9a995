-- The limits: at most 64 levels of nesting are open at a token, and one expression has at most as many binary operators as its language
-- allows.
use Rattle.std.specs.Prelude.{ℕ, ◌+◌, ◌<◌, ◌≤◌, List, [], ◌∷◌, ⊤}
use Rattle.derivation.specs.declared.rule.Rule.{Rule}
use Rattle.derivation.specs.declared.rule.Rule.TheVariants.{Expected, Nesting, Operators}
use Rattle.derivation.specs.Languages.{Language}
use Rattle.derivation.specs.Pieces.{Counting, keeps, one_more, anew, Token, Piece, token, look}

-- the number of operators of its expression up to and with a token, from the number before it
abbrev pub count_on : ℕ → Counting → ℕ
count_on count keeps = count
count_on count one_more = count + 1
count_on count anew = 0

-- the token is none past the last operator that its expression may have, and is
abbrev pub IsCounted : ℕ → ℕ → Counting → Type 0
IsCounted most count one_more = count + 1 ≤ most
IsCounted most count _ = ⊤

-- a token within the limits, where its expression has so many operators before it
abbrev pub IsWithin : {L : Language} → ℕ → Token L → Type 0
IsWithin {L} count t = (t.level ≤ 64) × IsCounted L.most_operators count t.counting

-- all tokens of the pieces are within the limits
abbrev pub AllWithin : {L : Language} → ℕ → List (Piece L) → Type 0
AllWithin count [] = ⊤
AllWithin count (token t ∷ more) = IsWithin count t × AllWithin (count_on count t.counting) more
AllWithin count (look l ∷ more) = AllWithin count more

-- What follows has no part in the headline.

abbrev pub IsTooMany : ℕ → ℕ → Counting → Type 0
IsTooMany most count one_more = most < count + 1
IsTooMany most count _ = ⊥

-- the number of operators behind the pieces
abbrev pub count_behind : {L : Language} → ℕ → List (Piece L) → ℕ
count_behind count [] = count
count_behind count (token t ∷ more) = count_behind (count_on count t.counting) more
count_behind count (look l ∷ more) = count_behind count more

-- a token breaks a limit; of one that breaks both, it is the limit of nesting
abbrev pub BreaksLimit : {L : Language} → ℕ → Token L → Rule → Type 0
BreaksLimit count t Expected = ⊥
BreaksLimit count t Nesting = 64 < t.level
BreaksLimit {L} count t Operators = (t.level ≤ 64) × IsTooMany L.most_operators count t.counting
