-- The tokens by their bytes alone.
use Rattle.std.specs.Prelude.{◌≡◌, ℕ, ◌<◌, ◌≤◌, ℤ, pos, List, [], ◌∷◌, length, codes, IsTrue, All, Contains, slice_index, slice_range}
use Rattle.source_lex.specs.Bytes.{is_letter, is_digit, is_name_byte}
use Rattle.source_lex.specs.Words.{decimal_value}
use Rattle.source_lex.specs.Lexemes.{lexeme}
use Rattle.source_lex.specs.declared.token.Kind.{Kind}
use Rattle.source_lex.specs.declared.token.Kind.TheVariants.{Number, Name, Sign}
use Rattle.source_lex.specs.declared.token.Token.{Token}

-- a letter or `_`, and then letters, digits and `_`
pub record SpellsName (bytes : List ℕ) : Type 0 where
  pub nonempty : 0 < length bytes
  pub starts : IsTrue (is_letter (slice_index bytes 0))
  pub each : All (λ byte. IsTrue (is_name_byte byte)) bytes

-- `0`, or a digit from 1 to 9 and then digits, which say the value
pub record SpellsNumber (bytes : List ℕ) (value : ℤ) : Type 0 where
  pub nonempty : 0 < length bytes
  pub each : All (λ byte. IsTrue (is_digit byte)) bytes
  pub no_leading_zero : slice_index bytes 0 ≡ 48 → length bytes ≡ 1
  pub says : value ≡ pos (decimal_value bytes)

-- the signs
unfoldable pub signs : List (List ℕ)
signs =
    codes "++" ∷ codes "--" ∷ codes "+=" ∷ codes "-=" ∷ codes "*=" ∷ codes "==" ∷ codes "!=" ∷ codes "<=" ∷ codes ">="
    ∷ codes "&&" ∷ codes "||" ∷ codes "<" ∷ codes ">" ∷ codes "=" ∷ codes "+" ∷ codes "-" ∷ codes "*" ∷ codes "/" ∷ codes "%" ∷ codes "!"
    ∷ codes "(" ∷ codes ")" ∷ codes "{" ∷ codes "}" ∷ codes "[" ∷ codes "]" ∷ codes ";" ∷ codes "," ∷ codes "?" ∷ []

-- the bytes spell a token of this kind
abbrev pub Spells : List ℕ → Kind → Type 0
Spells bytes (Number value) = SpellsNumber bytes value
Spells bytes Name = SpellsName bytes
Spells bytes Sign = Contains signs bytes

-- the token's bytes spell its kind
abbrev pub SpellsItsKind : List ℕ → Token → Type 0
SpellsItsKind text token = Spells (lexeme text token) token.kind

-- no bytes of the text from the token's start to behind its end spell a token
abbrev pub IsLongest : List ℕ → Token → Type 0
IsLongest text token =
    (end : ℕ) (kind : Kind) → token.end < end → end ≤ length text → Spells (slice_range text token.start end) kind → ⊥
