-- The pieces that a concrete tree spells: its tokens, each with what the limits ask of it, and between them what is asked of the next one.
use Rattle.std.specs.Prelude.{ℕ, ◌+◌, List, [], ◌∷◌, Option, None, Some, ⊤}
use Rattle.derivation.specs.Languages.{Language}

-- how a token counts among the operators of one expression: not at all; as one more; or it is one behind which an expression may
-- begin, so that the count begins anew
pub data Counting : Type 0 where
  keeps : Counting
  one_more : Counting
  anew : Counting

-- a token with the level of nesting that it opens (0: it opens none), and how it counts
pub record Token (L : Language) : Type 0 where
  pub word : L.Word
  pub level : ℕ
  pub counting : Counting

pub data Piece (L : Language) : Type 0 where
  token : Token L → Piece L
  look : L.Look → Piece L

-- the words of the pieces
abbrev pub spelling : {L : Language} → List (Piece L) → List L.Word
spelling [] = []
spelling (token t ∷ more) = t.word ∷ spelling more
spelling (look l ∷ more) = spelling more

-- the first word of the pieces, or where they have none the one behind them
abbrev pub first_before : {L : Language} → List (Piece L) → Option L.Word → Option L.Word
first_before [] behind = behind
first_before (token t ∷ more) behind = Some t.word
first_before (look l ∷ more) behind = first_before more behind

-- from the token of the number `n` on and before this next word, each token is as it is asked for
abbrev pub FitsBefore : {L : Language} → ℕ → List (Piece L) → Option L.Word → Type 0
FitsBefore n [] behind = ⊤
FitsBefore n (token t ∷ more) behind = FitsBefore (n + 1) more behind
FitsBefore {L} n (look l ∷ more) behind = L.Meets l n (first_before more behind) × FitsBefore n more behind

-- the same where nothing stands behind the pieces
abbrev pub Fits : {L : Language} → ℕ → List (Piece L) → Type 0
Fits n pieces = FitsBefore n pieces None

-- What follows has no part in the headline.

-- what is still to be read: the number of its first token, counted from 0, and its words
pub record Rest (L : Language) : Type 0 where
  pub number : ℕ
  pub words : List L.Word

-- the next word, if there is one
abbrev pub first : {W : Type 0} → List W → Option W
first [] = None
first (next ∷ more) = Some next

-- the number of the token behind the pieces, from that of their first
abbrev pub number_behind : {L : Language} → ℕ → List (Piece L) → ℕ
number_behind n [] = n
number_behind n (token t ∷ more) = number_behind (n + 1) more
number_behind n (look l ∷ more) = number_behind n more
