-- Ends bound the values that they are made for.
use Rattle.std.proofs.Common.{◌≡◌, ℕ, zero, suc, ◌<◌, ◌≤◌, ℤ, pos, negsuc, ◌+ℤ◌, ◌-ℤ◌, ◌*ℤ◌, ◌≤ℤ◌, ◌<ℤ◌, Bool, true, false, cond, Option}
use Rattle.std.proofs.Common.{Some, None, List, refl, subst, arith}
use Rattle.std.proofs.lemmas.Int.{ints}
use Rattle.linear_cons.specs.Bounds.{Covers, IsFrom, IsUpTo, LiesIn, lower_end, upper_end}
use Rattle.linear_cons.specs.declared.affine.Affine.{Affine}
use Rattle.linear_cons.specs.declared.bounds.Bounds.{Bounds}
use Rattle.linear_cons.specs.declared.bounds.Linear.{Linear}
use Rattle.linear_cons.specs.Functions.{IsConstant, coefficient, value_at}
use Rattle.linear_cons.specs.LinearForm.{products_below}
use Rattle.linear_cons.specs.Numbers.{Fits128, number_at}
use Rattle.linear_cons.proofs.Ring.{add_zero, mul_commutes, mul_le, mul_turned, zero_add, zero_mul}
use Rattle.linear_cons.proofs.KnownEnds.{known_end}
use Rattle.linear_cons.proofs.Sums.{value_is}
use Rattle.linear_cons.specs.Ends.{end_from, ends_from, exact_end, exactly, fits, greatest_value, least_value, scaled_end, term_end}
use Rattle.linear_cons.specs.Ends.{terms_end, value_end}

-- ---- exact forms

-- a form that leaves nothing out covers its function's value
pub exactly_covers : (a : Affine) (s : List ℤ) (v : ℤ) → v ≡ value_at a s → Covers (exactly a) s v
exactly_covers a s v is = record { lower = omega (arith, ints); upper = omega (arith, ints) }

-- ---- one end

pub from_same : (p : Option ℤ) (v w : ℤ) → v ≡ w → IsFrom p v → IsFrom p w
from_same p v w same h = subst (IsFrom p) same h

pub up_to_same : (p : Option ℤ) (v w : ℤ) → v ≡ w → IsUpTo p v → IsUpTo p w
up_to_same p v w same h = subst (IsUpTo p) same h

from_chosen : (b : Bool) (z v : ℤ) → z ≤ℤ v → IsFrom (cond b (Some z) None) v
from_chosen true z v h = h
from_chosen false z v h = tt

up_to_chosen : (b : Bool) (z v : ℤ) → v ≤ℤ z → IsUpTo (cond b (Some z) None) v
up_to_chosen true z v h = h
up_to_chosen false z v h = tt

pub from_end : (z v : ℤ) → z ≤ℤ v → IsFrom (exact_end z) v
from_end z v h = from_chosen (fits z) z v h

pub up_to_end : (z v : ℤ) → v ≤ℤ z → IsUpTo (exact_end z) v
up_to_end z v h = up_to_chosen (fits z) z v h

-- ---- sums and differences

pub from_sum : (p q : Option ℤ) (v w : ℤ) → IsFrom p v → IsFrom q w → IsFrom (ends_from (λ s t. s +ℤ t) p q) (v +ℤ w)
from_sum (Some a) (Some b) v w h k = from_end (a +ℤ b) (v +ℤ w) (omega (arith, ints))
from_sum (Some a) None v w h k = tt
from_sum None q v w h k = tt

pub up_to_sum : (p q : Option ℤ) (v w : ℤ) → IsUpTo p v → IsUpTo q w → IsUpTo (ends_from (λ s t. s +ℤ t) p q) (v +ℤ w)
up_to_sum (Some a) (Some b) v w h k = up_to_end (a +ℤ b) (v +ℤ w) (omega (arith, ints))
up_to_sum (Some a) None v w h k = tt
up_to_sum None q v w h k = tt

pub from_difference : (p q : Option ℤ) (v w : ℤ) → IsFrom p v → IsUpTo q w → IsFrom (ends_from (λ s t. s -ℤ t) p q) (v -ℤ w)
from_difference (Some a) (Some b) v w h k = from_end (a -ℤ b) (v -ℤ w) (omega (arith, ints))
from_difference (Some a) None v w h k = tt
from_difference None q v w h k = tt

pub up_to_difference : (p q : Option ℤ) (v w : ℤ) → IsUpTo p v → IsFrom q w → IsUpTo (ends_from (λ s t. s -ℤ t) p q) (v -ℤ w)
up_to_difference (Some a) (Some b) v w h k = up_to_end (a -ℤ b) (v -ℤ w) (omega (arith, ints))
up_to_difference (Some a) None v w h k = tt
up_to_difference None q v w h k = tt

from_shifted : (p : Option ℤ) (c v : ℤ) → IsFrom p v → IsFrom (end_from (λ s. s +ℤ c) p) (v +ℤ c)
from_shifted (Some a) c v h = from_end (a +ℤ c) (v +ℤ c) (omega (arith, ints))
from_shifted None c v h = tt

up_to_shifted : (p : Option ℤ) (c v : ℤ) → IsUpTo p v → IsUpTo (end_from (λ s. s +ℤ c) p) (v +ℤ c)
up_to_shifted (Some a) c v h = up_to_end (a +ℤ c) (v +ℤ c) (omega (arith, ints))
up_to_shifted None c v h = tt

-- ---- multiples

natural : (n : ℕ) → pos 0 ≤ℤ pos n
natural n = omega (arith, ints)

below_zero : (n : ℕ) → negsuc n <ℤ pos 0
below_zero n = omega (arith, ints)

kept : (n : ℕ) (a b : ℤ) → a ≤ℤ b → (a *ℤ pos n) ≤ℤ (b *ℤ pos n)
kept n a b h = rw (mul_commutes a (pos n), mul_commutes b (pos n)) (mul_le (pos n) a b (natural n) h)

turned : (n : ℕ) (a b : ℤ) → a ≤ℤ b → (b *ℤ negsuc n) ≤ℤ (a *ℤ negsuc n)
turned n a b h = rw (mul_commutes a (negsuc n), mul_commutes b (negsuc n)) (mul_turned (negsuc n) a b (below_zero n) h)

pub from_multiple : (k : ℤ) (own other : Option ℤ) (v : ℤ) → IsFrom own v → IsUpTo other v → IsFrom (scaled_end k own other) (v *ℤ k)
from_multiple (pos n) (Some a) other v h g = from_end (a *ℤ pos n) (v *ℤ pos n) (kept n a v h)
from_multiple (pos n) None other v h g = tt
from_multiple (negsuc n) own (Some a) v h g = from_end (a *ℤ negsuc n) (v *ℤ negsuc n) (turned n v a g)
from_multiple (negsuc n) own None v h g = tt

pub up_to_multiple : (k : ℤ) (own other : Option ℤ) (v : ℤ) → IsUpTo own v → IsFrom other v → IsUpTo (scaled_end k own other) (v *ℤ k)
up_to_multiple (pos n) (Some a) other v h g = up_to_end (a *ℤ pos n) (v *ℤ pos n) (kept n v a h)
up_to_multiple (pos n) None other v h g = tt
up_to_multiple (negsuc n) own (Some a) v h g = up_to_end (a *ℤ negsuc n) (v *ℤ negsuc n) (turned n a v g)
up_to_multiple (negsuc n) own None v h g = tt

-- ---- terms and values

from_term : (c : ℤ) (own other : Option ℤ) (v : ℤ) → IsFrom own v → IsUpTo other v → IsFrom (term_end c own other) (c *ℤ v)
from_term (pos zero) own other v h g = let nought = zero_mul v in omega (arith, ints)
from_term (pos (suc n)) own other v h g = from_same _ _ _ (mul_commutes v (pos (suc n))) (from_multiple (pos (suc n)) own other v h g)
from_term (negsuc n) own other v h g = from_same _ _ _ (mul_commutes v (negsuc n)) (from_multiple (negsuc n) own other v h g)

up_to_term : (c : ℤ) (own other : Option ℤ) (v : ℤ) → IsUpTo own v → IsFrom other v → IsUpTo (term_end c own other) (c *ℤ v)
up_to_term (pos zero) own other v h g = let nought = zero_mul v in omega (arith, ints)
up_to_term (pos (suc n)) own other v h g = up_to_same _ _ _ (mul_commutes v (pos (suc n))) (up_to_multiple (pos (suc n)) own other v h g)
up_to_term (negsuc n) own other v h g = up_to_same _ _ _ (mul_commutes v (negsuc n)) (up_to_multiple (negsuc n) own other v h g)

from_terms : (n : ℕ) → n ≤ 16 → (a : Affine) (own other : ℕ → Option ℤ) (s : List ℤ) → ((i : ℕ) → i < 16 → IsFrom (own i) (number_at s i))
    → ((i : ℕ) → i < 16 → IsUpTo (other i) (number_at s i)) → IsFrom (terms_end n a own other) (products_below n a.coef s)
unfolding terms_end products_below
from_terms zero few a own other s low high = omega (arith, ints)
from_terms (suc n) few a own other s low high =
    from_sum (terms_end n a own other) (term_end (coefficient a n) (own n) (other n)) _ _
    (from_terms n (omega arith) a own other s low high)
    (from_term (coefficient a n) (own n) (other n) (number_at s n) (low n (omega arith)) (high n (omega arith)))

up_to_terms : (n : ℕ) → n ≤ 16 → (a : Affine) (own other : ℕ → Option ℤ) (s : List ℤ) → ((i : ℕ) → i < 16 → IsUpTo (own i) (number_at s i))
    → ((i : ℕ) → i < 16 → IsFrom (other i) (number_at s i)) → IsUpTo (terms_end n a own other) (products_below n a.coef s)
unfolding terms_end products_below
up_to_terms zero few a own other s high low = omega (arith, ints)
up_to_terms (suc n) few a own other s high low =
    up_to_sum (terms_end n a own other) (term_end (coefficient a n) (own n) (other n)) _ _
    (up_to_terms n (omega arith) a own other s high low)
    (up_to_term (coefficient a n) (own n) (other n) (number_at s n) (high n (omega arith)) (low n (omega arith)))

whole_value : (a : Affine) (s : List ℤ) (v : ℤ) → products_below 16 a.coef s +ℤ a.constant +ℤ (v -ℤ value_at a s) ≡ v
whole_value a s v = let value = value_is a.coef a.constant s in omega (arith, ints)

-- over the bounds, a value is at least the least and at most the greatest
pub from_least : (x : Linear) (bounds : Bounds) (s : List ℤ) (v : ℤ) → LiesIn bounds s → Covers x s v → IsFrom (least_value x bounds) v
from_least x bounds s v inside covers =
    from_same _ _ _ (whole_value x.affine s v)
    (from_sum _ x.lo _ _ (from_shifted _ x.affine.constant _
    (from_terms 16 (omega arith) x.affine (lower_end bounds) (upper_end bounds) s inside.lower inside.upper)) covers.lower)

pub up_to_greatest : (x : Linear) (bounds : Bounds) (s : List ℤ) (v : ℤ) → LiesIn bounds s → Covers x s v
    → IsUpTo (greatest_value x bounds) v
up_to_greatest x bounds s v inside covers =
    up_to_same _ _ _ (whole_value x.affine s v)
    (up_to_sum _ x.hi _ _ (up_to_shifted _ x.affine.constant _
    (up_to_terms 16 (omega arith) x.affine (upper_end bounds) (lower_end bounds) s inside.upper inside.lower)) covers.upper)

-- ---- functions without variables

no_terms : (n : ℕ) → n ≤ 16 → (a : Affine) (own other : ℕ → Option ℤ) → IsConstant a → terms_end n a own other ≡ Some (pos 0)
unfolding terms_end
no_terms zero few a own other none = refl
no_terms (suc n) few a own other none = rw (
  no_terms n (omega arith) a own other none,
  none n (omega arith),
) (known_end (pos 0) (omega (arith, ints)))

-- the end of a function without variables is its constant
pub constant_end : (a : Affine) (own other : ℕ → Option ℤ) → IsConstant a → Fits128 a.constant
    → value_end a own other (Some (pos 0)) ≡ Some a.constant
constant_end a own other none fit =
    rw (no_terms 16 (omega arith) a own other none, zero_add, known_end a.constant fit, add_zero) (known_end a.constant fit)
