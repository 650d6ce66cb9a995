-- Where the end of a front of a text lies.
use Rattle.std.specs.Prelude.{◌≡◌, ◌⊎◌, ℕ, ◌+◌, List, [], ◌∷◌, ◌++◌, ◌==◌, length, filter, Contains}
use Rattle.fault_words.specs.declared.place.Place.{Place}

-- how many line feeds, code 10
abbrev pub line_feeds : List ℕ → ℕ
line_feeds front = length (filter (λ byte. byte == 10) front)

-- the front ends with the line, which has no line feed, and begins with it or with a line feed before it
pub record IsLastLine (front line : List ℕ) : Type 0 where
  pub before : List ℕ
  pub ends : front ≡ before ++ line
  pub begins : (before ≡ []) ⊎ ((earlier : List ℕ) × (before ≡ earlier ++ 10 ∷ []))
  pub unbroken : Contains line 10 → ⊥

-- The place behind the front: its line is the next after so many line feeds, and its column the next after the bytes of the last line.
pub record IsBehind (front : List ℕ) (place : Place) : Type 0 where
  pub line : place.line ≡ line_feeds front + 1
  pub column : (last : List ℕ) × IsLastLine front last × (place.column ≡ length last + 1)
