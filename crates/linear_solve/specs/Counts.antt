-- Numbers that are counted at each of the sixteen places.
use Rattle.std.specs.Prelude.{◌≡◌, ℕ, ◌+◌, ◌-◌, ◌<◌, ◌^◌, List, slice_index_or}

-- the count at a place
abbrev pub count_at : List ℕ → ℕ → ℕ
count_at counts place = slice_index_or counts place 0

-- each count may rise by one
abbrev pub HaveRoom : List ℕ → Type 0
HaveRoom counts = (place : ℕ) → place < 16 → count_at counts place < 2 ^ 64 - 1

-- at each place the new count is the old one and some more
abbrev pub AreRaised : (ℕ → ℕ) → List ℕ → List ℕ → Type 0
AreRaised more old new = (place : ℕ) → place < 16 → count_at new place ≡ count_at old place + more place
