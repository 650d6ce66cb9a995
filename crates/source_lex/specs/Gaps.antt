-- What stands between tokens: blanks and comments (C99 6.4.9, with this language's blanks).
use Rattle.std.specs.Prelude.{◌≡◌, ℕ, ◌+◌, ◌<◌, ◌≤◌, ◌⊎◌, List, length, IsTrue, slice_index}
use Rattle.source_lex.specs.Bytes.{is_blank, is_in_line}
use Rattle.source_lex.specs.Runs.{Run}

-- `//` at i
abbrev pub OpensLine : List ℕ → ℕ → Type 0
OpensLine text i = (slice_index text i ≡ 47) × (slice_index text (i + 1) ≡ 47)

-- `/*` at i
abbrev pub OpensBlock : List ℕ → ℕ → Type 0
OpensBlock text i = (slice_index text i ≡ 47) × (slice_index text (i + 1) ≡ 42)

-- `*/` at i
abbrev pub ClosesBlock : List ℕ → ℕ → Type 0
ClosesBlock text i = (slice_index text i ≡ 42) × (slice_index text (i + 1) ≡ 47)

-- one blank from i to j
pub record BlankAt (text : List ℕ) (i j : ℕ) : Type 0 where
  pub inside : i < length text
  pub blank : IsTrue (is_blank (slice_index text i))
  pub ends : j ≡ i + 1

-- a `//` comment from i to j: up to the line feed, which is a blank, or the text's end
pub record LineCommentAt (text : List ℕ) (i j : ℕ) : Type 0 where
  pub opens : OpensLine text i
  pub line : Run is_in_line text (i + 2) j

-- a `/*` comment from i to j, which is behind the first `*/` that follows
pub record BlockCommentAt (text : List ℕ) (i j : ℕ) : Type 0 where
  pub opens : OpensBlock text i
  pub close : ℕ
  pub behind : i + 2 ≤ close
  pub closes : ClosesBlock text close
  pub first : (k : ℕ) → i + 2 ≤ k → k < close → ClosesBlock text k → ⊥
  pub ends : j ≡ close + 2

-- a blank or a comment from i to j
abbrev pub GapAt : List ℕ → ℕ → ℕ → Type 0
GapAt text i j = BlankAt text i j ⊎ (LineCommentAt text i j ⊎ BlockCommentAt text i j)
