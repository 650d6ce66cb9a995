-- Programs as a language of the calculus, and what is left of a list of their words.
use Rattle.std.specs.Prelude.{◌≡◌, ℕ, Bool, true, false, Option, None, Some, List}
use Rattle.std.specs.Bool.{IsFalse}
use Rattle.derivation.specs.declared.lexeme.Lexeme.{Lexeme}
use Rattle.derivation.specs.declared.symbol.Symbol.TheVariants as Symbol
use Rattle.derivation.specs.Word.{Word, symbol}
use Rattle.derivation.specs.Spelled.{words_from}
use Rattle.derivation.specs.Languages.{Language}
use Rattle.derivation.specs.Pieces.{Token as TokenOf, Piece as PieceOf, Rest as RestOf}
use Rattle.derivation.specs.Comes.{Phrase as PhraseOf}
use Rattle.concrete_syntax.specs.declared.sign.Division.{Division}
use Rattle.concrete_syntax.specs.declared.sign.Operator.{Operator}
use Rattle.source_syntax.specs.declared.input.Reader.{Reader}
use Rattle.source_syntax.specs.declared.opening.LinkOpening.{LinkOpening}
use Rattle.source_syntax.specs.declared.opening.LinkOpening.TheVariants as Link

-- the binary operator that a word is, and so how a link opens that begins with it
abbrev pub link_opening : Option Word → Option LinkOpening
link_opening (Some (symbol Symbol.Plus)) = Some (Link.Operation Operator.Add)
link_opening (Some (symbol Symbol.Minus)) = Some (Link.Operation Operator.Subtract)
link_opening (Some (symbol Symbol.Times)) = Some (Link.Operation Operator.Multiply)
link_opening (Some (symbol Symbol.Divide)) = Some (Link.Division Division.Quotient)
link_opening (Some (symbol Symbol.Remainder)) = Some (Link.Division Division.Remainder)
link_opening (Some (symbol Symbol.Less)) = Some (Link.Operation Operator.Less)
link_opening (Some (symbol Symbol.LessEqual)) = Some (Link.Operation Operator.LessEqual)
link_opening (Some (symbol Symbol.Greater)) = Some (Link.Operation Operator.Greater)
link_opening (Some (symbol Symbol.GreaterEqual)) = Some (Link.Operation Operator.GreaterEqual)
link_opening (Some (symbol Symbol.Equal)) = Some (Link.Operation Operator.Equal)
link_opening (Some (symbol Symbol.NotEqual)) = Some (Link.Operation Operator.NotEqual)
link_opening (Some (symbol Symbol.And)) = Some (Link.Operation Operator.And)
link_opening (Some (symbol Symbol.Or)) = Some (Link.Operation Operator.Or)
link_opening _ = None

abbrev pub is_else : Option Word → Bool
is_else (Some (symbol Symbol.Else)) = true
is_else _ = false

-- what is asked of the next token: its number; that it is no binary operator, where an expression has ended; that it is no `else`, where
-- an `if` has ended without one; or what none meets, where something stands that isn't allowed
pub data Look : Type 0 where
  is_at : ℕ → Look
  no_operator : Look
  no_else : Look
  forbidden : Look

abbrev pub Meets : Look → ℕ → Option Word → Type 0
Meets (is_at number) n next = number ≡ n
Meets no_operator n next = link_opening next ≡ None
Meets no_else n next = IsFalse (is_else next)
Meets forbidden n next = ⊥

abbrev pub language : Language
language = record { Word = Word; Look = Look; Meets = Meets; most_operators = 256 }

abbrev pub Token : Type 0
Token = TokenOf language

abbrev pub Piece : Type 0
Piece = PieceOf language

abbrev pub Phrase : Type 1
Phrase = PhraseOf language

-- What follows has no part in the headline.

abbrev pub Rest : Type 0
Rest = RestOf language

-- a word that no end forbids
abbrev pub IsQuiet : Option Word → Type 0
IsQuiet next = (link_opening next ≡ None) × IsFalse (is_else next)

-- what is left of a list of words from a number on
abbrev pub rest_from : List Lexeme → ℕ → Rest
rest_from lexemes at = record { number = at; words = words_from lexemes at }

-- the same of a reader's words
abbrev pub rest_at : Reader → ℕ → Rest
rest_at reader at = rest_from reader.words.now at
