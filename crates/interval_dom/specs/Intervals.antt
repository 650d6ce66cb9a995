-- Intervals of whole numbers.
use Rattle.std.specs.Prelude.{◌≡◌, ◌≢◌, ◌⊎◌, ◌-◌, ◌^◌, ℤ, pos, negsuc, ◌+ℤ◌, ◌*ℤ◌, ◌≤ℤ◌, Bool, false, int_lt, None, Some, IsSomeAnd}
use Rattle.linear_cons.specs.Bounds.{IsFrom, IsUpTo}
use Rattle.num_domain.specs.declared.bound.Bound.{Bound}
use Rattle.num_domain.specs.declared.bound.Bound.TheVariants.{Without, At}
use Rattle.num_domain.specs.Ends.{some_end}
use Rattle.interval_dom.specs.declared.interval.Interval.{Interval}

-- the number is between the ends
pub record Holds (range : Interval) (z : ℤ) : Type 0 where
  pub from : IsFrom (some_end range.lower) z
  pub up_to : IsUpTo (some_end range.upper) z

-- the test that the ends leave no number: both are there, and the upper is below the lower
abbrev pub void_ends : Bound ℤ → Bound ℤ → Bool
void_ends Without upper = false
void_ends (At lower) Without = false
void_ends (At lower) (At upper) = int_lt upper lower

abbrev pub is_void : Interval → Bool
is_void range = void_ends range.lower range.upper

-- there is a lower end, and it is at least m
abbrev pub StartsFrom : Interval → ℤ → Type 0
StartsFrom range m = IsSomeAnd (some_end range.lower) (λ lower. m ≤ℤ lower)

-- there is an upper end, and it is at most m
abbrev pub EndsUpTo : Interval → ℤ → Type 0
EndsUpTo range m = IsSomeAnd (some_end range.upper) (λ upper. upper ≤ℤ m)

-- the least interval that has the numbers of both: each bound on the ends of both is one on its own
pub record IsHull (a b hull : Interval) : Type 0 where
  pub own : (z : ℤ) → Holds a z → Holds hull z
  pub others : (z : ℤ) → Holds b z → Holds hull z
  pub least_lower : (m : ℤ) → StartsFrom a m → StartsFrom b m → StartsFrom hull m
  pub least_upper : (m : ℤ) → EndsUpTo a m → EndsUpTo b m → EndsUpTo hull m

-- it has the numbers of both. An end that the newer interval keeps to stays, and no other end is made
pub record IsWidened (old newer wide : Interval) : Type 0 where
  pub own : (z : ℤ) → Holds old z → Holds wide z
  pub others : (z : ℤ) → Holds newer z → Holds wide z
  pub stable_lower : (m : ℤ) → some_end old.lower ≡ Some m → StartsFrom newer m → some_end wide.lower ≡ Some m
  pub stable_upper : (m : ℤ) → some_end old.upper ≡ Some m → EndsUpTo newer m → some_end wide.upper ≡ Some m
  pub no_new_lower : (some_end wide.lower ≡ some_end old.lower) ⊎ (some_end wide.lower ≡ None)
  pub no_new_upper : (some_end wide.upper ≡ some_end old.upper) ⊎ (some_end wide.upper ≡ None)

-- the end that factor * z + rest >= 0 asks for fits 128 bits: only that of z - 2^127 >= 0 does not
abbrev pub EndFits : ℤ → ℤ → Type 0
EndFits factor rest = factor ≡ pos 1 → rest ≢ negsuc (2 ^ 127 - 1)

-- each number of the interval has factor * z + rest at least 0, if the end that this asks for fits
abbrev pub IsMetIn : Interval → ℤ → ℤ → Type 0
IsMetIn part factor rest = EndFits factor rest → (z : ℤ) → Holds part z → pos 0 ≤ℤ (factor *ℤ z +ℤ rest)

-- the part of an interval where factor * z + rest is at least 0, if the end that this asks for fits
pub record IsRefined (range : Interval) (factor rest : ℤ) (part : Interval) : Type 0 where
  pub keeps : (z : ℤ) → Holds range z → pos 0 ≤ℤ (factor *ℤ z +ℤ rest) → Holds part z
  pub inside : (z : ℤ) → Holds part z → Holds range z
  pub meets : IsMetIn part factor rest
