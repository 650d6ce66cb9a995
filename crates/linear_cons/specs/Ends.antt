-- Ends of values over bounds. A sum is made step by step, and its end isn't known where a number on the way doesn't fit 128 bits.
use Rattle.std.specs.Prelude.{ℕ, zero, suc, ◌^◌, ℤ, pos, negsuc, ◌+ℤ◌, ◌*ℤ◌, Bool, Option, None, Some, if◌then◌else◌, nat_lt}
use Rattle.linear_cons.specs.declared.affine.Affine.{Affine}
use Rattle.linear_cons.specs.declared.bounds.Bounds.{Bounds}
use Rattle.linear_cons.specs.declared.bounds.Linear.{Linear}
use Rattle.linear_cons.specs.Functions.{coefficient}
use Rattle.linear_cons.specs.Bounds.{lower_end, upper_end}

-- exactly the function, which leaves nothing out
abbrev pub exactly : Affine → Linear
exactly a = record { affine = a; lo = Some (pos 0); hi = Some (pos 0) }

-- What follows has no part in the headline.

-- the number is at least -2^127 and below 2^127
unfoldable pub fits : ℤ → Bool
fits (pos n) = nat_lt n (2 ^ 127)
fits (negsuc n) = nat_lt n (2 ^ 127)

-- the end that an exact number is: known exactly where it fits
abbrev pub exact_end : ℤ → Option ℤ
exact_end z = if fits z then Some z else None

-- an end made of one or of two others, each of which has to be known
abbrev pub end_from : (ℤ → ℤ) → Option ℤ → Option ℤ
end_from f None = None
end_from f (Some a) = exact_end (f a)

abbrev pub ends_from : (ℤ → ℤ → ℤ) → Option ℤ → Option ℤ → Option ℤ
ends_from f (Some a) (Some b) = exact_end (f a b)
ends_from f _ _ = None

-- the end of a number times a factor: a negative factor takes the other end
abbrev pub scaled_end : ℤ → Option ℤ → Option ℤ → Option ℤ
scaled_end (pos n) own other = end_from (λ e. e *ℤ pos n) own
scaled_end (negsuc n) own other = end_from (λ e. e *ℤ negsuc n) other

-- the same for a coefficient and the ends of its place: a coefficient of 0 needs no end
abbrev pub term_end : ℤ → Option ℤ → Option ℤ → Option ℤ
term_end (pos zero) own other = Some (pos 0)
term_end (pos (suc n)) own other = scaled_end (pos (suc n)) own other
term_end (negsuc n) own other = scaled_end (negsuc n) own other

-- the end of the sum of the terms at the places below n, made from place 0 upward
unfoldable pub terms_end : ℕ → Affine → (ℕ → Option ℤ) → (ℕ → Option ℤ) → Option ℤ
terms_end zero a own other = Some (pos 0)
terms_end (suc n) a own other =
    ends_from (λ s t. s +ℤ t) (terms_end n a own other) (term_end (coefficient a n) (own n) (other n))

-- the end of the whole: the terms, then the constant, then the form's own end
abbrev pub value_end : Affine → (ℕ → Option ℤ) → (ℕ → Option ℤ) → Option ℤ → Option ℤ
value_end a own other last = ends_from (λ v e. v +ℤ e) (end_from (λ s. s +ℤ a.constant) (terms_end 16 a own other)) last

-- the least and the greatest value of a linear form over the bounds
abbrev pub least_value : Linear → Bounds → Option ℤ
least_value x bounds = value_end x.affine (lower_end bounds) (upper_end bounds) x.lo

abbrev pub greatest_value : Linear → Bounds → Option ℤ
greatest_value x bounds = value_end x.affine (upper_end bounds) (lower_end bounds) x.hi
