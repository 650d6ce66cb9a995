-- Ends of ranges that may be missing.
use Rattle.std.specs.Prelude.{◌≡◌, ℤ, Option, None, Some}
use Rattle.num_domain.specs.declared.bound.Bound.{Bound}
use Rattle.num_domain.specs.declared.bound.Bound.TheVariants.{Without, At}

-- the value at the end, where there is one
abbrev pub some_end : {T : Type 0} → Bound T → Option T
some_end Without = None
some_end (At x) = Some x

-- the whole number at the end, where there is one
abbrev pub end_of : {T : Type 0} → (T → ℤ) → Bound T → Option ℤ
end_of value Without = None
end_of value (At x) = Some (value x)

-- the operation on two ends, where both are there
abbrev pub both_ends : (ℤ → ℤ → ℤ) → Option ℤ → Option ℤ → Option ℤ
both_ends f None right = None
both_ends f (Some a) None = None
both_ends f (Some a) (Some b) = Some (f a b)

-- the end is the whole number where there is one that the type has, and is missing in every other case
abbrev pub IsExactEnd : {T : Type 0} → (T → ℤ) → (ℤ → Type 0) → Option ℤ → Bound T → Type 0
IsExactEnd value fits None Without = Unit {0}
IsExactEnd value fits None (At x) = ⊥
IsExactEnd value fits (Some z) Without = ¬ fits z
IsExactEnd value fits (Some z) (At x) = fits z × (value x ≡ z)
