-- Sums and the smaller of two ends.
use Rattle.std.proofs.Common.{◌≡◌, ℤ, pos, ◌+ℤ◌, Bool, true, false, int_lt, cond, Option, None, Some, arith, refl, sym, ◌∙◌, ap}
use Rattle.std.proofs.lemmas.Int.{int_max_is, ints}
use Rattle.std.specs.Int.{int_max}
use Rattle.linear_cons.specs.Bounds.{IsUpTo}
use Rattle.linear_cons.specs.Numbers.{Fits128}
use Rattle.linear_cons.proofs.KnownEnds.{known_end, unknown_end}
use Rattle.num_domain.specs.declared.bound.Bound.{Bound}
use Rattle.num_domain.specs.declared.bound.Bound.TheVariants.{Without, At}
use Rattle.num_domain.specs.Ends.{IsExactEnd, both_ends, end_of, some_end}
use Rattle.octagon_dom.specs.Cells.{stable_end, sum_end}

pub sum_is : (left right sum : Bound ℤ)
    → IsExactEnd (λ (z : ℤ). z) Fits128 (both_ends ◌+ℤ◌ (end_of (λ (z : ℤ). z) left) (end_of (λ (z : ℤ). z) right)) sum
    → some_end sum ≡ sum_end (some_end left) (some_end right)
sum_is Without right Without is = refl
sum_is Without right (At x) is = absurd is
sum_is (At a) Without Without is = refl
sum_is (At a) Without (At x) is = absurd is
sum_is (At a) (At b) Without is = sym (unknown_end (a +ℤ b) is)
sum_is (At a) (At b) (At x) is = ap Some is.1 ∙ sym (known_end (a +ℤ b) is.0)

-- a step after a bound of 0 and before one is the step
pub sum_zero_left : (end : Option ℤ) → ((z : ℤ) → end ≡ Some z → Fits128 z) → sum_end (Some (pos 0)) end ≡ end
sum_zero_left None fit = refl
sum_zero_left (Some a) fit = let e : pos 0 +ℤ a ≡ a = omega (arith, ints) in rw e (known_end a (fit a refl))

pub sum_zero_right : (end : Option ℤ) → ((z : ℤ) → end ≡ Some z → Fits128 z) → sum_end end (Some (pos 0)) ≡ end
sum_zero_right None fit = refl
sum_zero_right (Some a) fit = let e : a +ℤ pos 0 ≡ a = omega (arith, ints) in rw e (known_end a (fit a refl))

-- the greater end has what either has
pub up_to_greater_left : (left right : Option ℤ) (z : ℤ) → IsUpTo left z → IsUpTo (both_ends int_max left right) z
up_to_greater_left None right z h = tt
up_to_greater_left (Some a) None z h = tt
up_to_greater_left (Some a) (Some b) z h = omega (arith, ints, int_max_is a b)

pub up_to_greater_right : (left right : Option ℤ) (z : ℤ) → IsUpTo right z → IsUpTo (both_ends int_max left right) z
up_to_greater_right None right z h = tt
up_to_greater_right (Some a) None z h = tt
up_to_greater_right (Some a) (Some b) z h = omega (arith, ints, int_max_is a b)

-- a stable end has what either has
pub up_to_stable_own : (own newer : Option ℤ) (z : ℤ) → IsUpTo own z → IsUpTo (stable_end own newer) z
up_to_stable_own None newer z h = tt
up_to_stable_own (Some a) None z h = tt
up_to_stable_own (Some a) (Some b) z h = chosen (int_lt a b)
  where
    chosen : (t : Bool) → IsUpTo (cond t None (Some a)) z
    chosen true = tt
    chosen false = h

pub up_to_stable_newer : (own newer : Option ℤ) (z : ℤ) → IsUpTo newer z → IsUpTo (stable_end own newer) z
up_to_stable_newer None newer z h = tt
up_to_stable_newer (Some a) None z h = tt
up_to_stable_newer (Some a) (Some b) z h = chosen (int_lt a b) refl
  where
    chosen : (t : Bool) → int_lt a b ≡ t → IsUpTo (cond t None (Some a)) z
    chosen true is = tt
    chosen false is = omega (arith, ints)
