-- The calculus of reading: what is still to be read, and how far a text has been read.
use Rattle.std.specs.Prelude.{◌≡◌, ◌≢◌, ℕ, ◌+◌, List, ◌∷◌, ◌++◌, Option, None, Some}
use Rattle.derivation.specs.declared.rule.Rule.{Rule}
use Rattle.derivation.specs.declared.rule.Rule.TheVariants.{Expected}
use Rattle.derivation.specs.Languages.{Language}
use Rattle.derivation.specs.Pieces.{Token, Piece, token, Rest, spelling, first, first_before, number_behind, FitsBefore, Fits}
use Rattle.derivation.specs.Limits.{AllWithin, count_behind, BreaksLimit}

-- something to be read: its trees, and the pieces that each spells
pub record Phrase (L : Language) : Type 1 where
  pub Tree : Type 0
  pub pieces : Tree → List (Piece L)

-- the words are what this tree spells, within the limits
pub record IsSpelledBy {L : Language} (A : Phrase L) (all : List L.Word) (tree : A.Tree) : Type 0 where
  pub spelled : all ≡ spelling (A.pieces tree)
  pub fits : Fits 0 (A.pieces tree)
  pub within : AllWithin 0 (A.pieces tree)

-- What follows has no part in the headline.

-- a next word that may stand in place of another: whatever the other meets it meets too
abbrev pub MayStandFor : (L : Language) → Option L.Word → Option L.Word → Type 0
MayStandFor L next other = (l : L.Look) (n : ℕ) → L.Meets l n other → L.Meets l n next

-- a word stands at the front, and behind it what is left
abbrev pub IsNext : {L : Language} → L.Word → Rest L → Rest L → Type 0
IsNext word from to = (from.words ≡ word ∷ to.words) × (to.number ≡ from.number + 1)

-- Reading A from `from`, behind `count` operators, has come to reading B from `to`, behind `now`: the words between are within the
-- limits, each tree of B makes one of A by `fill`, which spells those words and then what the tree of B spells, and each tree of A that
-- spells those words before the same next word is made so.
pub record Comes {L : Language} (count : ℕ) (A : Phrase L) (from : Rest L) (now : ℕ) (B : Phrase L) (to : Rest L) (fill : B.Tree → A.Tree) : Type 0 where
  pub front : List (Piece L)
  pub parted : from.words ≡ spelling front ++ to.words
  pub numbered : to.number ≡ number_behind from.number front
  pub within : AllWithin count front
  pub counted : now ≡ count_behind count front
  pub fits : FitsBefore from.number front (first to.words)
  pub spells : (g : B.Tree) → A.pieces (fill g) ≡ front ++ B.pieces g
  pub only : (f : A.Tree) → Fits from.number (A.pieces f) → (rest : List L.Word) → spelling (A.pieces f) ≡ spelling front ++ rest
      → first rest ≡ first to.words → (g : B.Tree) × (f ≡ fill g)

-- Whatever tree spells the front's words before this next word, that word's token breaks the limit.
abbrev pub AllBreak : {L : Language} → ℕ → ℕ → Phrase L → Rule → List (Piece L) → Option L.Word → Type 0
AllBreak {L} number count A rule front next =
    (f : A.Tree) → Fits number (A.pieces f) → (before after : List (Piece L)) (t : Token L) → A.pieces f ≡ before ++ token t ∷ after
    → spelling before ≡ spelling front → Some t.word ≡ next → BreaksLimit (count_behind count before) t rule

-- Why reading A can't go on behind a front of pieces: no tree spells the front's words before this next word, or one spells the front and
-- then a token that breaks a limit, and so do all that spell these words.
abbrev pub Cause : {L : Language} → ℕ → ℕ → Phrase L → Rule → List (Piece L) → List (Piece L) → Option L.Word → Type 0
Cause {L} number count A Expected front rest next =
    (f : A.Tree) → Fits number (A.pieces f) → (behind : List L.Word) → spelling (A.pieces f) ≡ spelling front ++ behind → first behind ≢ next
Cause {L} number count A rule front rest next =
    (t : Token L) × (more : List (Piece L)) × (rest ≡ token t ∷ more) × (next ≡ Some t.word) × BreaksLimit (count_behind count front) t rule
    × AllBreak number count A rule front next

-- Reading A from `from`, behind `count` operators, breaks a rule at the first of `to`, and nothing before: the words before are within the
-- limits and begin what a tree spells.
pub record Breaks {L : Language} (count : ℕ) (A : Phrase L) (from : Rest L) (rule : Rule) (to : Rest L) : Type 0 where
  pub front : List (Piece L)
  pub rest : List (Piece L)
  pub parted : from.words ≡ spelling front ++ to.words
  pub numbered : to.number ≡ number_behind from.number front
  pub within : AllWithin count front
  pub tree : A.Tree
  pub fits : Fits from.number (A.pieces tree)
  pub begins : A.pieces tree ≡ front ++ rest
  pub stands : MayStandFor L (first_before rest None) (first to.words)
  pub cause : Cause from.number count A rule front rest (first to.words)

-- The first fault of a list of words that has to be an A: they break the rule at the first of `to`. The words before are within the limits
-- and begin what some tree spells; and no tree spells them before this next word, or one spells them and then a token that breaks a limit,
-- as all do that spell these words. Trees are those that fit, numbered from 0.
pub record FirstFault {L : Language} (A : Phrase L) (all : List L.Word) (rule : Rule) (to : List L.Word) : Type 0 where
  pub front : List (Piece L)
  pub rest : List (Piece L)
  pub parted : all ≡ spelling front ++ to
  pub within : AllWithin 0 front
  pub tree : A.Tree
  pub fits : Fits 0 (A.pieces tree)
  pub begins : A.pieces tree ≡ front ++ rest
  pub cause : Cause 0 0 A rule front rest (first to)
