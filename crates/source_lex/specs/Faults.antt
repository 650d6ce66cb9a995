-- The faults of texts that have no tokens.
use Rattle.std.specs.Prelude.{◌≡◌, ℕ, ◌+◌, ◌^◌, ◌<◌, ◌≤◌, ◌⊎◌, List, length, IsTrue, slice_index, slice_range}
use Rattle.std.specs.Bool.{IsFalse}
use Rattle.source_lex.specs.Bytes.{is_blank, is_letter, is_digit, is_name_byte}
use Rattle.source_lex.specs.Signs.{is_single_sign, is_double_sign}
use Rattle.source_lex.specs.Gaps.{GapAt, OpensLine, OpensBlock, ClosesBlock}
use Rattle.source_lex.specs.Words.{LiteralAt, TokenAt, decimal_value}
use Rattle.source_lex.specs.declared.fault.LexFault.{LexFault}
use Rattle.source_lex.specs.declared.fault.LexFault.TheVariants.{BadByte, BigNumber, OpenComment, Memory}
use Rattle.source_lex.specs.declared.token.Kind.{Kind}

-- the byte at i begins no blank, comment, name, number or sign
pub record NothingBeginsAt (text : List ℕ) (i : ℕ) : Type 0 where
  pub inside : i < length text
  pub no_blank : IsFalse (is_blank (slice_index text i))
  pub no_line_comment : OpensLine text i → ⊥
  pub no_block_comment : OpensBlock text i → ⊥
  pub no_name : IsFalse (is_letter (slice_index text i))
  pub no_number : IsFalse (is_digit (slice_index text i))
  pub no_double_sign : IsFalse (is_double_sign (slice_index text i) (slice_index text (i + 1)))
  pub no_single_sign : IsFalse (is_single_sign (slice_index text i))

-- a literal of at most 2^63 - 1 from i to j, and directly behind it a digit (behind a leading 0), a letter or `_`
pub record LiteralRunsOn (text : List ℕ) (i j : ℕ) : Type 0 where
  pub literal : LiteralAt text i j
  pub fits : decimal_value (slice_range text i j) < 2 ^ 63
  pub runs_on : IsTrue (is_name_byte (slice_index text j))

-- a literal above 2^63 - 1 at i
pub record BigLiteralAt (text : List ℕ) (i : ℕ) : Type 0 where
  pub end : ℕ
  pub literal : LiteralAt text i end
  pub too_big : 2 ^ 63 ≤ decimal_value (slice_range text i end)

-- `/*` at i, with no `*/` behind it
pub record UnclosedAt (text : List ℕ) (i : ℕ) : Type 0 where
  pub opens : OpensBlock text i
  pub never_closes : (k : ℕ) → i + 2 ≤ k → ClosesBlock text k → ⊥

-- where a token or a gap would begin at i, this fault is met; want of memory is no fault of a text
abbrev pub FaultAt : List ℕ → ℕ → LexFault → Type 0
FaultAt text i (BadByte at) = (NothingBeginsAt text i × (at ≡ i)) ⊎ LiteralRunsOn text i at
FaultAt text i (BigNumber at) = BigLiteralAt text i × (at ≡ i)
FaultAt text i (OpenComment at) = UnclosedAt text i × (at ≡ i)
FaultAt text i (Memory _) = ⊥

-- from offset i on, gaps and tokens lead up to this fault
pub data FaultFrom (text : List ℕ) (fault : LexFault) : ℕ → Type 0 where
  -- it is met here
  here : (i : ℕ) → FaultAt text i fault → FaultFrom text fault i
  -- it is met behind a blank or a comment
  behind_gap : (i j : ℕ) → GapAt text i j → FaultFrom text fault j → FaultFrom text fault i
  -- it is met behind a token
  behind_token : (i j : ℕ) (kind : Kind) → TokenAt text i j kind → FaultFrom text fault j → FaultFrom text fault i

-- the first fault of the text: everything before it is gaps and tokens
abbrev pub FirstFault : List ℕ → LexFault → Type 0
FirstFault text fault = FaultFrom text fault 0

-- what a lexer may answer in place of the tokens: the first fault of the text, or that memory ran out
abbrev pub IsFaultAnswer : List ℕ → LexFault → Type 0
IsFaultAnswer text (BadByte at) = FirstFault text (BadByte at)
IsFaultAnswer text (BigNumber at) = FirstFault text (BigNumber at)
IsFaultAnswer text (OpenComment at) = FirstFault text (OpenComment at)
IsFaultAnswer text (Memory _) = Unit {0}
