-- What a count of faults says of the calls between two of its values.
use Rattle.std.specs.Prelude.{◌≡◌, ℕ, ◌-◌, ◌^◌, ◌<◌, ◌⊎◌}

-- The count rose: it is larger than it was, or it stands at 2^64 - 1, the last value of a counter of
-- 64 bits, where one more fault leaves it.
abbrev pub Rose : ℕ → ℕ → Type 0
Rose old new = (old < new) ⊎ (new ≡ 2 ^ 64 - 1)
