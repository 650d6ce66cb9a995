-- Numerals: decimal digits, with no bound on how many.
use Rattle.std.specs.Prelude.{ℕ, zero, suc, ◌+◌, ◌/◌, ◌%◌, nat_lt, List, [], ◌∷◌, ◌++◌, if◌then◌else◌}

-- The digits of n, the most significant first, where n has at most `digits` of them: a number below 10 is one digit, and the code of the
-- digit 0 is 48; any other number is what the number without its last digit is, and then that digit.
unfoldable pub numeral_within : ℕ → ℕ → List ℕ
numeral_within zero n = []
numeral_within (suc digits) n = if nat_lt n 10 then (48 + n) ∷ [] else numeral_within digits (n / 10) ++ (48 + n % 10) ∷ []

-- the decimal numeral of n, which has fewer than n + 2 digits; no zero leads it, but for the numeral of 0
unfoldable pub numeral : ℕ → List ℕ
numeral n = numeral_within (suc n) n
