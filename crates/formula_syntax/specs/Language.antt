-- Formulas as a language of the calculus, and what is left of a list of their words.
use Rattle.std.specs.Prelude.{◌≡◌, ℕ, Option, None, Some, List}
use Rattle.derivation.specs.Languages.{Language}
use Rattle.derivation.specs.Pieces.{Token as TokenOf, Piece as PieceOf, Rest as RestOf}
use Rattle.derivation.specs.Comes.{Phrase as PhraseOf}
use Rattle.formula_syntax.specs.declared.sign.Connective.{Connective}
use Rattle.formula_syntax.specs.declared.sign.Operator.{Operator}
use Rattle.formula_syntax.specs.declared.sign.Sign.TheVariants as S
use Rattle.formula_syntax.specs.declared.input.Reader.{Reader}
use Rattle.formula_syntax.specs.declared.lexeme.Lexeme.{Lexeme}
use Rattle.formula_syntax.specs.Words.{Word, sign, words_from}

-- the sign between two factors, or between two parts, that a word is
abbrev pub operator_of : Option Word → Option Operator
operator_of (Some (sign (S.Operator op))) = Some op
operator_of _ = None

abbrev pub connective_of : Option Word → Option Connective
connective_of (Some (sign (S.Connective c))) = Some c
connective_of _ = None

-- what is asked of the next token: its number; that it is no operator, where a sum has ended; or that it is no connective, where a formula
-- has
pub data Look : Type 0 where
  is_at : ℕ → Look
  no_operator : Look
  no_connective : Look

abbrev pub Meets : Look → ℕ → Option Word → Type 0
Meets (is_at number) n next = number ≡ n
Meets no_operator n next = operator_of next ≡ None
Meets no_connective n next = connective_of next ≡ None

abbrev pub language : Language
language = record { Word = Word; Look = Look; Meets = Meets; most_operators = 64 }

abbrev pub Token : Type 0
Token = TokenOf language

abbrev pub Piece : Type 0
Piece = PieceOf language

abbrev pub Phrase : Type 1
Phrase = PhraseOf language

-- What follows has no part in the headline.

abbrev pub Rest : Type 0
Rest = RestOf language

-- a word that no end forbids
abbrev pub IsQuiet : Option Word → Type 0
IsQuiet next = (operator_of next ≡ None) × (connective_of next ≡ None)

-- what is left of a list of words from a number on
abbrev pub rest_from : List Lexeme → ℕ → Rest
rest_from lexemes at = record { number = at; words = words_from lexemes at }

-- the same of a reader's words
abbrev pub rest_at : Reader → ℕ → Rest
rest_at reader at = rest_from reader.words.now at
