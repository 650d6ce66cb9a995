-- Offsets in a text. An offset is a number of bytes from the text's start; a byte past the text's end reads as 0.
use Rattle.std.specs.Prelude.{ℕ, ◌<◌, ◌≤◌, Bool, List, length, IsTrue, slice_index}
use Rattle.std.specs.Bool.{IsFalse}

-- the bytes from i up to j pass the test, and the run ends there: at the text's end or before a byte that doesn't pass
pub record Run (test : ℕ → Bool) (text : List ℕ) (i j : ℕ) : Type 0 where
  pub forward : i ≤ j
  pub within : j ≤ length text
  pub each : (k : ℕ) → i ≤ k → k < j → IsTrue (test (slice_index text k))
  pub ends : j < length text → IsFalse (test (slice_index text j))
