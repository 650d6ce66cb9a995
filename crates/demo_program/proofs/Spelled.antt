-- Texts that are spelled lexeme by lexeme, each with a blank behind it or none.
use Rattle.std.specs.Prelude.{◌≡◌, ◌≢◌, ℕ, ◌+◌, ◌^◌, ◌<◌, ◌⊎◌, pos, Bool, true, false, List, [], ◌∷◌, ◌++◌, length, IsTrue, slice_index, ⊤}
use Rattle.std.specs.Bool.{IsFalse}
use Rattle.source_lex.specs.Bytes.{is_digit, is_letter, is_name_byte}
use Rattle.source_lex.specs.Signs.{is_double_sign, is_single_sign}
use Rattle.source_lex.specs.Tokens.{TokensFrom}
use Rattle.source_lex.specs.Words.{decimal_value}
use Rattle.source_lex.specs.declared.token.Kind.{Kind}
use Rattle.source_lex.specs.declared.token.Kind.TheVariants.{Number, Name, Sign}
use Rattle.source_lex.specs.declared.token.Token.{Token}

pub record Lexeme : Type 0 where
  pub kind : Kind
  pub bytes : List ℕ
  pub spaced : Bool

-- each byte passes the test
abbrev pub AllPass : (ℕ → Bool) → List ℕ → Type 0
AllPass test [] = ⊤
AllPass test (byte ∷ more) = IsTrue (test byte) × AllPass test more

-- the bytes are a token of the kind, and don't run into the next byte
abbrev pub StandsAlone : Kind → List ℕ → ℕ → Type 0
StandsAlone Name bytes next =
    (0 < length bytes) × IsTrue (is_letter (slice_index bytes 0)) × AllPass is_name_byte bytes × IsFalse (is_name_byte next)
StandsAlone (Number value) bytes next =
    ((bytes ≡ 48 ∷ []) ⊎ ((0 < length bytes) × (slice_index bytes 0 ≢ 48) × AllPass is_digit bytes))
    × (value ≡ pos (decimal_value bytes)) × (decimal_value bytes < 2 ^ 63) × IsFalse (is_digit next) × IsFalse (is_name_byte next)
StandsAlone Sign bytes next =
    (byte : ℕ) × (bytes ≡ byte ∷ []) × IsTrue (is_single_sign byte) × IsFalse (is_double_sign byte next) × (byte ≢ 47)

-- what follows, behind a blank or directly
abbrev pub behind : Bool → List ℕ → List ℕ
behind true text = 32 ∷ text
behind false text = text

abbrev pub spelled : List Lexeme → List ℕ
spelled [] = []
spelled (lexeme ∷ more) = lexeme.bytes ++ behind lexeme.spaced (spelled more)

abbrev pub AreLexemes : List Lexeme → Type 0
AreLexemes [] = ⊤
AreLexemes (lexeme ∷ more) = StandsAlone lexeme.kind lexeme.bytes (slice_index (behind lexeme.spaced (spelled more)) 0) × AreLexemes more

abbrev pub width : Bool → ℕ
width true = 1
width false = 0

abbrev pub tokens_at : ℕ → List Lexeme → List Token
tokens_at i [] = []
tokens_at i (lexeme ∷ more) =
    record { kind = lexeme.kind; start = i; end = i + length lexeme.bytes } ∷ tokens_at (i + length lexeme.bytes + width lexeme.spaced) more

abbrev pub LexemesAreRead : Type 0
LexemesAreRead = (front : List ℕ) (lexemes : List Lexeme) → AreLexemes lexemes
    → TokensFrom (front ++ spelled lexemes) (length front) (tokens_at (length front) lexemes)
