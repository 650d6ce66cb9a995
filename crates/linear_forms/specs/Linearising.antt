-- The linear form of an expression: an affine function, and two ends of what it leaves out.
use Rattle.std.specs.Prelude.{ℕ, zero, suc, ◌&&◌, ℤ, pos, negsuc, ◌+ℤ◌, ◌-ℤ◌, ◌*ℤ◌, Bool, true, false, Option, None, Some, if◌then◌else◌, int_div, int_lt, unsigned_abs}
use Rattle.std.specs.Int.{int_min, int_max}
use Rattle.std.specs.Ordering.{int_eq}
use Rattle.std.specs.Cmp.Lexicographic.{pointwise}
use Rattle.step_meaning.specs.declared.expression.Op2.{Op2}
use Rattle.step_meaning.specs.declared.expression.Op2.TheVariants.{Add, Sub, Mul, Less, LessEqual, Greater, GreaterEqual, Equal, NotEqual}
use Rattle.step_meaning.specs.declared.expression.Op2.TheVariants.{And, Or}
use Rattle.step_meaning.specs.Syntax.{Expression, number, variable, range, negative, pair, free, truth, negation, divided, quotient, remainder}
use Rattle.linear_cons.specs.declared.affine.Affine.{Affine}
use Rattle.linear_cons.specs.declared.bounds.Bounds.{Bounds}
use Rattle.linear_cons.specs.declared.bounds.Linear.{Linear}
use Rattle.linear_cons.specs.Functions.{coefficient, constant_of, variable_at, sum_of, difference_of, multiple_of}
use Rattle.linear_cons.specs.Ends.{ends_from, exact_end, exactly, fits, greatest_value, least_value, scaled_end}

-- nothing but a number between two ends
abbrev pub between : Option ℤ → Option ℤ → Linear
between lo hi = record { affine = constant_of (pos 0); lo = lo; hi = hi }

-- any number
abbrev pub unknown : Linear
unknown = between None None

-- the test holds at each place below n
unfoldable pub all_below : ℕ → (ℕ → Bool) → Bool
all_below zero test = true
all_below (suc n) test = test n && all_below n test

-- every number of the function fits 128 bits
abbrev pub numbers_fit : Affine → Bool
numbers_fit a = all_below 16 (λ place. fits (coefficient a place)) && fits a.constant

-- the function with the two ends; nothing is known where one of its numbers doesn't fit
abbrev pub with_ends : Affine → Option ℤ → Option ℤ → Linear
with_ends a lo hi = if numbers_fit a then record { affine = a; lo = lo; hi = hi } else unknown

-- the sum, the difference and the multiple
abbrev pub total : Linear → Linear → Linear
total x y =
    with_ends (sum_of x.affine y.affine) (ends_from (λ a b. a +ℤ b) x.lo y.lo) (ends_from (λ a b. a +ℤ b) x.hi y.hi)

abbrev pub lessened : Linear → Linear → Linear
lessened x y =
    with_ends (difference_of x.affine y.affine) (ends_from (λ a b. a -ℤ b) x.lo y.hi) (ends_from (λ a b. a -ℤ b) x.hi y.lo)

abbrev pub scaled : Linear → ℤ → Linear
scaled x factor = with_ends (multiple_of x.affine factor) (scaled_end factor x.lo x.hi) (scaled_end factor x.hi x.lo)

-- the end is known, and is 0
abbrev pub is_nought : Option ℤ → Bool
is_nought None = false
is_nought (Some z) = int_eq z (pos 0)

-- nothing is left out
abbrev pub is_exact : Linear → Bool
is_exact x = is_nought x.lo && is_nought x.hi

-- two functions have the same numbers; no variable occurs in a function
abbrev pub is_same : Affine → Affine → Bool
is_same a b = pointwise int_eq a.coef b.coef && int_eq a.constant b.constant

abbrev pub is_constant : Affine → Bool
is_constant a = is_same a (constant_of a.constant)

-- the form is exactly a number; two forms are exactly one function
abbrev pub is_number : Linear → Bool
is_number x = is_exact x && is_constant x.affine

abbrev pub are_equal : Linear → Linear → Bool
are_equal x y = is_exact x && is_exact y && is_same x.affine y.affine

-- the product of two numbers, the first from a to b and the second from c to d: its ends are among the products of the ends
abbrev pub least_of : ℤ → ℤ → ℤ → ℤ → ℤ
least_of p q r t = int_min (int_min p q) (int_min r t)

abbrev pub greatest_of : ℤ → ℤ → ℤ → ℤ → ℤ
greatest_of p q r t = int_max (int_max p q) (int_max r t)

abbrev pub corners : Option ℤ → Option ℤ → Option ℤ → Option ℤ → Linear
corners (Some a) (Some b) (Some c) (Some d) =
    between (exact_end (least_of (a *ℤ c) (a *ℤ d) (b *ℤ c) (b *ℤ d))) (exact_end (greatest_of (a *ℤ c) (a *ℤ d) (b *ℤ c) (b *ℤ d)))
corners _ _ _ _ = unknown

-- the square of a number from a to b
abbrev pub square : Option ℤ → Option ℤ → Linear
square a b = between (Some (pos 0)) (ends_from (λ u v. int_max (u *ℤ u) (v *ℤ v)) a b)

-- a product with a number scales, the left factor asked first; a product of one function with itself is its square; any other lies
-- between its corners
abbrev pub product : Bounds → Linear → Linear → Linear
product bounds x y =
    if is_number x then scaled y x.affine.constant
    else (if is_number y then scaled x y.affine.constant
    else (if are_equal x y then square (least_value x bounds) (greatest_value x bounds)
    else corners (least_value x bounds) (greatest_value x bounds) (least_value y bounds) (greatest_value y bounds)))

abbrev pub combined_by : Op2 → Bounds → Linear → Linear → Linear
combined_by Add bounds x y = total x y
combined_by Sub bounds x y = lessened x y
combined_by Mul bounds x y = product bounds x y
combined_by Less bounds x y = unknown
combined_by LessEqual bounds x y = unknown
combined_by Greater bounds x y = unknown
combined_by GreaterEqual bounds x y = unknown
combined_by Equal bounds x y = unknown
combined_by NotEqual bounds x y = unknown
combined_by And bounds x y = unknown
combined_by Or bounds x y = unknown

-- a quotient of a number between two ends: it lies between the quotients of the ends, which a negative divisor exchanges; by 0 there is none
abbrev pub quotient_end : Option ℤ → ℤ → Option ℤ
quotient_end None b = None
quotient_end (Some z) b = if int_eq b (pos 0) then None else exact_end (int_div z b)

abbrev pub quotient_form : Option ℤ → Option ℤ → ℤ → Linear
quotient_form lo hi b =
    if int_lt b (pos 0) then between (quotient_end hi b) (quotient_end lo b) else between (quotient_end lo b) (quotient_end hi b)

-- what is left of it is smaller in size than the divisor, at least 0 where no number is negative, and at most 0 where none is positive
abbrev pub least_left : Option ℤ → ℤ → ℤ
least_left None b = pos 1 -ℤ pos (unsigned_abs b)
least_left (Some z) b = if int_lt z (pos 0) then pos 1 -ℤ pos (unsigned_abs b) else pos 0

abbrev pub most_left : Option ℤ → ℤ → ℤ
most_left None b = pos (unsigned_abs b) -ℤ pos 1
most_left (Some z) b = if int_lt (pos 0) z then pos (unsigned_abs b) -ℤ pos 1 else pos 0

abbrev pub remainder_form : Option ℤ → Option ℤ → ℤ → Linear
remainder_form lo hi b = between (Some (least_left lo b)) (Some (most_left hi b))

-- the linear form of a number expression
abbrev pub linear_of : Bounds → Expression → Linear
linear_of bounds (number z) = exactly (constant_of z)
linear_of bounds (variable x) = exactly (variable_at x)
linear_of bounds (range lo hi) = between lo hi
linear_of bounds (negative e) = scaled (linear_of bounds e) (negsuc 0)
linear_of bounds (pair op l r) = combined_by op bounds (linear_of bounds l) (linear_of bounds r)
linear_of bounds (divided quotient e b) = quotient_form (least_value (linear_of bounds e) bounds) (greatest_value (linear_of bounds e) bounds) b
linear_of bounds (divided remainder e b) = remainder_form (least_value (linear_of bounds e) bounds) (greatest_value (linear_of bounds e) bounds) b
linear_of bounds free = unknown
linear_of bounds (truth b) = unknown
linear_of bounds (negation c) = unknown
