-- The words that a parser reads: the tokens of a text without their offsets, told apart by what they are.
use Rattle.std.specs.Prelude.{ℕ, ℤ, List, Option, None, Some, map}
use Rattle.source_lex.specs.declared.token.Kind.{Kind}
use Rattle.source_lex.specs.declared.token.Kind.TheVariants.{Number, Name, Sign}
use Rattle.source_lex.specs.declared.token.Token.{Token}
use Rattle.source_lex.specs.Lexemes.{lexeme}
use Rattle.derivation.specs.declared.symbol.Symbol.{Symbol}
use Rattle.derivation.specs.Symbols.{found, reserved_words, signs}

-- a reserved word or sign, a name that isn't reserved, or a number; `unknown` is a sign of no meaning, of which there is none
pub data Word : Type 0 where
  symbol : Symbol → Word
  name : List ℕ → Word
  number : ℤ → Word
  unknown : Word

-- a name is a reserved word where it is found among them
abbrev pub name_word : List ℕ → Option Symbol → Word
name_word bytes (Some reserved) = symbol reserved
name_word bytes None = name bytes

abbrev pub sign_word : Option Symbol → Word
sign_word (Some sign) = symbol sign
sign_word None = unknown

-- the word of this kind and these bytes
abbrev pub word_of : Kind → List ℕ → Word
word_of (Number value) bytes = number value
word_of Name bytes = name_word bytes (found reserved_words bytes)
word_of Sign bytes = sign_word (found signs bytes)

-- the word that a token of this text is
abbrev pub word : List ℕ → Token → Word
word text token = word_of token.kind (lexeme text token)

-- What follows has no part in the headline.

-- the words that the tokens of this text are
abbrev pub words : List ℕ → List Token → List Word
words text tokens = map (word text) tokens
