-- The tokens by their offsets in the text, each the longest that begins where it begins.
use Rattle.std.specs.Prelude.{◌≡◌, ◌≢◌, ℕ, ◌+◌, ◌-◌, ◌*◌, ◌^◌, ◌<◌, ◌⊎◌, ℤ, pos, List, length, fold, IsTrue, slice_index, slice_range}
use Rattle.std.specs.Bool.{IsFalse}
use Rattle.source_lex.specs.Bytes.{is_letter, is_digit, is_name_byte}
use Rattle.source_lex.specs.Signs.{is_single_sign, is_double_sign}
use Rattle.source_lex.specs.Runs.{Run}
use Rattle.source_lex.specs.Gaps.{OpensLine, OpensBlock}
use Rattle.source_lex.specs.declared.token.Kind.{Kind}
use Rattle.source_lex.specs.declared.token.Kind.TheVariants.{Number, Name, Sign}

-- the number that decimal digits say, the most significant first
unfoldable pub decimal_value : List ℕ → ℕ
decimal_value digits = fold (λ value digit. 10 * value + (digit - 48)) 0 digits

-- a name from i to j: a letter or `_`, and all the letters, digits and `_` that follow
pub record NameAt (text : List ℕ) (i j : ℕ) : Type 0 where
  pub inside : i < length text
  pub first : IsTrue (is_letter (slice_index text i))
  pub word : Run is_name_byte text i j

-- the number `0` from i to j
pub record ZeroAt (text : List ℕ) (i j : ℕ) : Type 0 where
  pub inside : i < length text
  pub zero_digit : slice_index text i ≡ 48
  pub ends : j ≡ i + 1

-- a digit from 1 to 9 at i, and all the digits that follow, up to j
pub record DigitsAt (text : List ℕ) (i j : ℕ) : Type 0 where
  pub inside : i < length text
  pub first : IsTrue (is_digit (slice_index text i))
  pub not_zero : slice_index text i ≢ 48
  pub digits : Run is_digit text i j

-- a decimal literal from i to j
abbrev pub LiteralAt : List ℕ → ℕ → ℕ → Type 0
LiteralAt text i j = ZeroAt text i j ⊎ DigitsAt text i j

-- a number from i to j: a literal of at most 2^63 - 1, with no digit, letter or `_` directly behind it
pub record NumberAt (text : List ℕ) (i j : ℕ) (value : ℤ) : Type 0 where
  pub literal : LiteralAt text i j
  pub says : value ≡ pos (decimal_value (slice_range text i j))
  pub fits : decimal_value (slice_range text i j) < 2 ^ 63
  pub stands_alone : IsFalse (is_name_byte (slice_index text j))

-- a sign of two bytes from i to j
pub record DoubleSignAt (text : List ℕ) (i j : ℕ) : Type 0 where
  pub inside : i + 1 < length text
  pub spelled : IsTrue (is_double_sign (slice_index text i) (slice_index text (i + 1)))
  pub ends : j ≡ i + 2

-- a sign of one byte from i to j, where no sign of two bytes and no comment begins
pub record SingleSignAt (text : List ℕ) (i j : ℕ) : Type 0 where
  pub inside : i < length text
  pub longest : IsFalse (is_double_sign (slice_index text i) (slice_index text (i + 1)))
  pub no_line_comment : OpensLine text i → ⊥
  pub no_block_comment : OpensBlock text i → ⊥
  pub spelled : IsTrue (is_single_sign (slice_index text i))
  pub ends : j ≡ i + 1

-- a token of this kind from i to j
abbrev pub TokenAt : List ℕ → ℕ → ℕ → Kind → Type 0
TokenAt text i j (Number value) = NumberAt text i j value
TokenAt text i j Name = NameAt text i j
TokenAt text i j Sign = DoubleSignAt text i j ⊎ SingleSignAt text i j
