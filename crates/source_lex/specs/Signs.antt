-- The signs (C99 6.4.6 has them among its punctuators).
use Rattle.std.specs.Prelude.{ℕ, Bool, ◌||◌, ◌&&◌, ◌==◌, List, codes}
use Rattle.std.specs.List.{list_any}

-- the byte is one of these
abbrev pub is_one_of : List ℕ → ℕ → Bool
is_one_of bytes byte = list_any (λ each. each == byte) bytes

-- the byte is a sign by itself: one of  < > = + - * / % ! ( ) { } [ ] ; , ?
unfoldable pub is_single_sign : ℕ → Bool
is_single_sign byte = is_one_of (codes "<>=+-*/%!(){}[];,?") byte

-- the two bytes are a sign together: one of  ++ -- && ||  or of  += -= *= == != <= >=
unfoldable pub is_double_sign : ℕ → ℕ → Bool
is_double_sign byte next =
    (next == byte && is_one_of (codes "+-&|") byte) || (next == 61 && is_one_of (codes "+-*=!<>") byte)
