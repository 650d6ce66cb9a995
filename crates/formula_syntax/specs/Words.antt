-- The words of formulas: the tokens of a text without their offsets, told apart by what they are.
use Rattle.std.specs.Prelude.{ℕ, ◌<◌, ◌≤◌, ℤ, true, false, List, [], ◌∷◌, Option, None, Some, map, drop, length, codes, if◌then◌else◌}
use Rattle.std.specs.Str.{bytes_eq}
use Rattle.source_lex.specs.declared.token.Kind.{Kind}
use Rattle.source_lex.specs.declared.token.Kind.TheVariants.{Number, Name, Sign as SignKind}
use Rattle.source_lex.specs.declared.token.Token.{Token}
use Rattle.source_lex.specs.Lexemes.{lexeme}
use Rattle.formula_syntax.specs.declared.sign.Prefix.TheVariants as P
use Rattle.formula_syntax.specs.declared.sign.Connective.TheVariants as C
use Rattle.formula_syntax.specs.declared.sign.Comparison.TheVariants as R
use Rattle.formula_syntax.specs.declared.sign.Operator.TheVariants as O
use Rattle.formula_syntax.specs.declared.sign.Sign.{Sign}
use Rattle.formula_syntax.specs.declared.sign.Sign.TheVariants as S
use Rattle.formula_syntax.specs.declared.lexeme.Lexeme.{Lexeme}
use Rattle.formula_syntax.specs.declared.lexeme.Lexeme.TheVariants as L

-- a spelling and what it is
abbrev pub Entry : Type 0
Entry = List ℕ × Sign

-- the first entry of these bytes
abbrev pub found : List Entry → List ℕ → Option Sign
found [] bytes = None
found (first ∷ rest) bytes = if bytes_eq first.0 bytes then Some first.1 else found rest bytes

-- the reserved words, by which no variable can be named in a formula
abbrev pub reserved_words : List Entry
reserved_words =
    (codes "A", S.Quantifier true) ∷ (codes "E", S.Quantifier false) ∷ (codes "U", S.Until false) ∷ (codes "W", S.Until true)
    ∷ (codes "AX", S.Prefix P.AllNext) ∷ (codes "EX", S.Prefix P.SomeNext) ∷ (codes "AF", S.Prefix P.AllFinally)
    ∷ (codes "EF", S.Prefix P.SomeFinally) ∷ (codes "AG", S.Prefix P.AllGlobally) ∷ (codes "EG", S.Prefix P.SomeGlobally)
    ∷ (codes "exit", S.Exit) ∷ (codes "true", S.Truth true) ∷ (codes "false", S.Truth false) ∷ []

-- the signs of programs that formulas have too
abbrev pub signs : List Entry
signs =
    (codes "!", S.Prefix P.Not) ∷ (codes "&&", S.Connective C.And) ∷ (codes "||", S.Connective C.Or)
    ∷ (codes "==", S.Comparison R.Equal) ∷ (codes "!=", S.Comparison R.NotEqual) ∷ (codes "<", S.Comparison R.Less)
    ∷ (codes "<=", S.Comparison R.LessEqual) ∷ (codes ">", S.Comparison R.Greater) ∷ (codes ">=", S.Comparison R.GreaterEqual)
    ∷ (codes "+", S.Operator O.Add) ∷ (codes "-", S.Operator O.Subtract) ∷ (codes "*", S.Operator O.Multiply)
    ∷ (codes "(", S.OpenParenthesis) ∷ (codes ")", S.CloseParenthesis) ∷ (codes "[", S.OpenBracket) ∷ (codes "]", S.CloseBracket) ∷ []

-- a reserved word or sign, a name that isn't reserved, a number, or a sign that no formula has
pub data Word : Type 0 where
  sign : Sign → Word
  name : List ℕ → Word
  number : ℤ → Word
  other : Word

-- a name is a reserved word where it is found among them
abbrev pub name_word : List ℕ → Option Sign → Word
name_word bytes (Some reserved) = sign reserved
name_word bytes None = name bytes

abbrev pub sign_word : Option Sign → Word
sign_word (Some s) = sign s
sign_word None = other

-- the word of this kind and these bytes
abbrev pub word_of : Kind → List ℕ → Word
word_of (Number value) bytes = number value
word_of Name bytes = name_word bytes (found reserved_words bytes)
word_of SignKind bytes = sign_word (found signs bytes)

-- the word that a token of this text is
abbrev pub word : List ℕ → Token → Word
word text token = word_of token.kind (lexeme text token)

-- What follows has no part in the headline.

-- the words that the tokens of this text are
abbrev pub words : List ℕ → List Token → List Word
words text tokens = map (word text) tokens

-- the words that the reader's own lexemes are
abbrev pub spelled : Lexeme → Word
spelled (L.Sign s) = sign s
spelled (L.Name bytes) = name bytes.now
spelled (L.Number value) = number value
spelled L.Other = other

abbrev pub all_spelled : List Lexeme → List Word
all_spelled lexemes = map spelled lexemes

-- the words from a number on
abbrev pub words_from : List Lexeme → ℕ → List Word
words_from lexemes at = all_spelled (drop at lexemes)

-- the second number is behind the first, and no farther than the end
pub record IsBehind (lexemes : List Lexeme) (at next : ℕ) : Type 0 where
  pub forward : at < next
  pub inside : next ≤ length lexemes
