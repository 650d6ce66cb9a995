-- What the searches of the lexer find.
use Rattle.std.specs.Prelude.{ℕ, ◌+◌, ◌<◌, ◌≤◌, List, length, slice_index}
use Rattle.std.specs.Bool.{IsFalse}
use Rattle.source_lex.specs.Gaps.{ClosesBlock}
use Rattle.source_lex.specs.Signs.{is_single_sign, is_double_sign}

-- the first `*/` from an offset on is at close, within the text
pub record FirstCloseAt (text : List ℕ) (from close : ℕ) : Type 0 where
  pub behind : from ≤ close
  pub within : close + 2 ≤ length text
  pub closes : ClosesBlock text close
  pub first : (k : ℕ) → from ≤ k → k < close → ClosesBlock text k → ⊥

-- there is no `*/` from an offset on
abbrev pub NeverCloses : List ℕ → ℕ → Type 0
NeverCloses text from = (k : ℕ) → from ≤ k → ClosesBlock text k → ⊥

-- no sign begins at i
abbrev pub NoSignAt : List ℕ → ℕ → Type 0
NoSignAt text i =
    IsFalse (is_double_sign (slice_index text i) (slice_index text (i + 1))) × IsFalse (is_single_sign (slice_index text i))
