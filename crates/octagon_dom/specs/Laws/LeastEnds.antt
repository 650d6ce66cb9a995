-- The smaller of two upper ends.
use Rattle.std.proofs.Common.{◌≡◌, ℤ, ◌≤ℤ◌, Bool, true, false, int_lt, cond, Option, None, Some, arith, refl}
use Rattle.std.proofs.lemmas.Int.{ints}
use Rattle.linear_cons.specs.Bounds.{IsUpTo}
use Rattle.octagon_dom.specs.Cells.{least_end}

pub up_to_least : (left right : Option ℤ) (z : ℤ) → IsUpTo left z → IsUpTo right z → IsUpTo (least_end left right) z
up_to_least None right z h g = g
up_to_least (Some a) None z h g = h
up_to_least (Some a) (Some b) z h g = chosen (int_lt b a)
  where
    chosen : (t : Bool) → z ≤ℤ (cond t b a)
    chosen true = g
    chosen false = h

pub least_up_to_left : (left right : Option ℤ) (z : ℤ) → IsUpTo (least_end left right) z → IsUpTo left z
least_up_to_left None right z h = tt
least_up_to_left (Some a) None z h = h
least_up_to_left (Some a) (Some b) z h = chosen (int_lt b a) refl
  where
    chosen : (t : Bool) → int_lt b a ≡ t → z ≤ℤ a
    chosen true is = let h' : z ≤ℤ b = rw is at h in omega (arith, ints)
    chosen false is = rw is at h

pub least_up_to_right : (left right : Option ℤ) (z : ℤ) → IsUpTo (least_end left right) z → IsUpTo right z
least_up_to_right None right z h = h
least_up_to_right (Some a) None z h = tt
least_up_to_right (Some a) (Some b) z h = chosen (int_lt b a) refl
  where
    chosen : (t : Bool) → int_lt b a ≡ t → z ≤ℤ b
    chosen true is = rw is at h
    chosen false is = let h' : z ≤ℤ a = rw is at h in omega (arith, ints)
