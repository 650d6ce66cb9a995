-- Texts of whole numbers.
use Rattle.std.specs.Prelude.{◌≡◌, ℕ, ℤ, pos, neg_ℤ, ◌⊎◌, List, ◌∷◌}
use Rattle.line_text.specs.Numeral.{numeral}

-- a numeral, or a hyphen, code 45, and a numeral; so 0 has the text `-0` too
abbrev pub IsNumberText : List ℕ → ℤ → Type 0
IsNumberText text z = ((n : ℕ) × (text ≡ numeral n) × (z ≡ pos n)) ⊎ ((n : ℕ) × (text ≡ 45 ∷ numeral n) × (z ≡ neg_ℤ (pos n)))
