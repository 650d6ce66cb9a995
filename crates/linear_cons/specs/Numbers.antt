-- Whole numbers of 128 bits, and lists of them that are read by place.
use Rattle.std.specs.Prelude.{ℕ, ◌/◌, ℤ, pos, negsuc, List, map, slice_index_or, FitsSigned}
use Rattle.std.specs.Int.{w128}
use Rattle.std.specs.List.{range_with_len}

-- the number fits 128 bits: it is at least -2^127 and below 2^127
abbrev pub Fits128 : ℤ → Type 0
Fits128 z = FitsSigned w128 z

-- the number at a place of a list, and 0 past its end
abbrev pub number_at : List ℤ → ℕ → ℤ
number_at xs i = slice_index_or xs i (pos 0)

-- the sixteen numbers f 0, f 1, .. f 15
unfoldable pub at_places : (ℕ → ℤ) → List ℤ
at_places f = map f (range_with_len 0 16)

-- the number divided by a positive one, rounded down
abbrev pub floor_by : ℕ → ℤ → ℤ
floor_by g (pos n) = pos (n / g)
floor_by g (negsuc n) = negsuc (n / g)
