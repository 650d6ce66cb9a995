-- The linear form of an expression covers what the expression may give.
use Rattle.std.proofs.Common.{◌≡◌, ◌≢◌, ℕ, zero, suc, ◌≤ℤ◌, int_div, int_eq, int_lt, unsigned_abs, ℤ, pos, negsuc, ◌+ℤ◌, ◌-ℤ◌, ◌*ℤ◌, Bool, true, false, cond, ◌&&◌, Option, Some, None, List, refl, sym, subst, ap, ◌∙◌, arith}
use Rattle.std.proofs.lemmas.Int.{ints}
use Rattle.std.specs.Int.{int_max}
use Rattle.std.proofs.lemmas.Bool.Decides.{Decides-int_eq}
use Rattle.step_meaning.specs.declared.expression.Op2.{Op2}
use Rattle.step_meaning.specs.declared.expression.Op2.TheVariants.{Add, Sub, Mul}
use Rattle.step_meaning.specs.Syntax.{Expression, number, variable, free, range, truth, negative, negation, pair, divided, quotient, remainder}
use Rattle.step_meaning.specs.Naming.{NamesBelow}
use Rattle.step_meaning.specs.Outcome.{Makes, May, Truncates}
use Rattle.linear_cons.specs.Bounds.{Covers, IsFrom, IsUpTo, LiesIn}
use Rattle.linear_cons.specs.declared.affine.Affine.{Affine}
use Rattle.linear_cons.specs.declared.bounds.Bounds.{Bounds}
use Rattle.linear_cons.specs.declared.bounds.Linear.{Linear}
use Rattle.linear_cons.specs.Functions.{constant_of, difference_of, multiple_of, sum_of, value_at, variable_at}
use Rattle.linear_cons.proofs.Forms.{value_constant, value_difference, value_multiple, value_sum, value_variable}
use Rattle.linear_cons.proofs.Ring.{mul_commutes, sub_mul}
use Rattle.linear_cons.specs.Ends.{ends_from, greatest_value, least_value}
use Rattle.linear_forms.specs.Linearising.{are_equal, between, least_left, most_left, quotient_end, quotient_form, remainder_form, combined_by, corners, is_constant, is_exact, is_nought, is_number, is_same, lessened, linear_of, numbers_fit, product, scaled, square, total, unknown, with_ends}
use Rattle.linear_forms.proofs.AffineForms.{times_minus_one}
use Rattle.linear_forms.proofs.Corners.{greatest_corner_above, least_corner_below, square_from_0, up_to_square}
use Rattle.linear_cons.proofs.EndLaws.{exactly_covers, from_difference, from_end, from_least, from_multiple, from_same, from_sum, up_to_difference, up_to_end, up_to_greatest, up_to_multiple, up_to_same, up_to_sum}
use Rattle.linear_forms.proofs.Known.{is_same_decides}
use Rattle.step_meaning.proofs.Quotients.{falls, grows, left_above, left_between, only, truncates}

-- ---- choices

pub both_true : (b c : Bool) → (b && c) ≡ true → (b ≡ true) × (c ≡ true)
both_true true true h = (refl, refl)
both_true true false h = absurd (cc)
both_true false c h = absurd (cc)

covers_either : (b : Bool) (x y : Linear) (s : List ℤ) (v : ℤ) → (b ≡ true → Covers x s v) → (b ≡ false → Covers y s v) → Covers (cond b x y) s v
covers_either true x y s v yes_case no_case = yes_case refl
covers_either false x y s v yes_case no_case = no_case refl

-- ---- forms made of ends alone

ends_cover : (lo hi : Option ℤ) (s : List ℤ) (v : ℤ) → IsFrom lo v → IsUpTo hi v → Covers (between lo hi) s v
ends_cover lo hi s v low high =
    let nought = value_constant (pos 0) s in
    let same : v ≡ v -ℤ value_at (constant_of (pos 0)) s = omega (arith, ints) in
    record { lower = from_same lo _ _ same low; upper = up_to_same hi _ _ same high }

unknown_covers : (s : List ℤ) (v : ℤ) → Covers unknown s v
unknown_covers s v = record { lower = tt; upper = tt }

-- ---- exact forms

nought_is : (end : Option ℤ) → is_nought end ≡ true → end ≡ Some (pos 0)
nought_is (Some z) h = ap Some ((Decides-int_eq z (pos 0)).0 h)
nought_is None h = absurd (cc)

-- an exact form covers its function's value alone
pub exact_value : (x : Linear) (s : List ℤ) (v : ℤ) → is_exact x ≡ true → Covers x s v → v ≡ value_at x.affine s
exact_value x s v exact covers =
    let ends = both_true (is_nought x.lo) (is_nought x.hi) exact in
    let low : IsFrom (Some (pos 0)) (v -ℤ value_at x.affine s) = subst (λ end. IsFrom end (v -ℤ value_at x.affine s)) (nought_is x.lo ends.0) covers.lower in
    let high : IsUpTo (Some (pos 0)) (v -ℤ value_at x.affine s) = subst (λ end. IsUpTo end (v -ℤ value_at x.affine s)) (nought_is x.hi ends.1) covers.upper in
    omega (arith, ints)

number_value : (x : Linear) (s : List ℤ) (v : ℤ) → is_number x ≡ true → Covers x s v → v ≡ x.affine.constant
number_value x s v is covers =
    let parts = both_true (is_exact x) (is_constant x.affine) is in
    let same : x.affine ≡ constant_of x.affine.constant = (is_same_decides x.affine (constant_of x.affine.constant)).0 parts.1 in
    exact_value x s v parts.0 covers ∙ ap (λ a. value_at a s) same ∙ value_constant x.affine.constant s

-- ---- sums, differences, multiples

with_ends_covers : (a : Affine) (lo hi : Option ℤ) (s : List ℤ) (v : ℤ) → IsFrom lo (v -ℤ value_at a s) → IsUpTo hi (v -ℤ value_at a s) → Covers (with_ends a lo hi) s v
with_ends_covers a lo hi s v low high =
    covers_either (numbers_fit a) (record { affine = a; lo = lo; hi = hi }) unknown s v (λ fit. record { lower = low; upper = high }) (λ wide. unknown_covers s v)

total_covers : (x y : Linear) (s : List ℤ) (v w : ℤ) → Covers x s v → Covers y s w → Covers (total x y) s (v +ℤ w)
total_covers x y s v w left right =
    let value = value_sum x.affine y.affine s in
    let same : v -ℤ value_at x.affine s +ℤ (w -ℤ value_at y.affine s) ≡ v +ℤ w -ℤ value_at (sum_of x.affine y.affine) s = omega (arith, ints) in
    with_ends_covers (sum_of x.affine y.affine) _ _ s (v +ℤ w)
    (from_same _ _ _ same (from_sum x.lo y.lo _ _ left.lower right.lower))
    (up_to_same _ _ _ same (up_to_sum x.hi y.hi _ _ left.upper right.upper))

lessened_covers : (x y : Linear) (s : List ℤ) (v w : ℤ) → Covers x s v → Covers y s w → Covers (lessened x y) s (v -ℤ w)
lessened_covers x y s v w left right =
    let value = value_difference x.affine y.affine s in
    let same : v -ℤ value_at x.affine s -ℤ (w -ℤ value_at y.affine s) ≡ v -ℤ w -ℤ value_at (difference_of x.affine y.affine) s = omega (arith, ints) in
    with_ends_covers (difference_of x.affine y.affine) _ _ s (v -ℤ w)
    (from_same _ _ _ same (from_difference x.lo y.hi _ _ left.lower right.upper))
    (up_to_same _ _ _ same (up_to_difference x.hi y.lo _ _ left.upper right.lower))

scaled_covers : (x : Linear) (k : ℤ) (s : List ℤ) (v : ℤ) → Covers x s v → Covers (scaled x k) s (v *ℤ k)
scaled_covers x k s v covers =
    let value : value_at (multiple_of x.affine k) s ≡ value_at x.affine s *ℤ k = value_multiple x.affine k s ∙ mul_commutes k (value_at x.affine s) in
    let difference = sub_mul v (value_at x.affine s) k in
    let same : (v -ℤ value_at x.affine s) *ℤ k ≡ v *ℤ k -ℤ value_at (multiple_of x.affine k) s = omega (arith, ints) in
    with_ends_covers (multiple_of x.affine k) _ _ s (v *ℤ k)
    (from_same _ _ _ same (from_multiple k x.lo x.hi _ covers.lower covers.upper))
    (up_to_same _ _ _ same (up_to_multiple k x.hi x.lo _ covers.upper covers.lower))

-- ---- products

corners_cover : (p q r t : Option ℤ) (s : List ℤ) (v w : ℤ) → IsFrom p v → IsUpTo q v → IsFrom r w → IsUpTo t w → Covers (corners p q r t) s (v *ℤ w)
corners_cover (Some a) (Some b) (Some c) (Some d) s v w from to low high =
    ends_cover _ _ s (v *ℤ w) (from_end _ _ (least_corner_below a b c d v w from to low high)) (up_to_end _ _ (greatest_corner_above a b c d v w from to low high))
corners_cover None q r t s v w from to low high = unknown_covers s (v *ℤ w)
corners_cover (Some a) None r t s v w from to low high = unknown_covers s (v *ℤ w)
corners_cover (Some a) (Some b) None t s v w from to low high = unknown_covers s (v *ℤ w)
corners_cover (Some a) (Some b) (Some c) None s v w from to low high = unknown_covers s (v *ℤ w)

square_covers : (p q : Option ℤ) (s : List ℤ) (v w : ℤ) → v ≡ w → IsFrom p v → IsUpTo q v → Covers (square p q) s (v *ℤ w)
square_covers p q s v w same from to =
    subst (λ t. Covers (square p q) s (v *ℤ t)) same
    (ends_cover (Some (pos 0)) (ends_from (λ a b. int_max (a *ℤ a) (b *ℤ b)) p q) s (v *ℤ v) (square_from_0 v) (up_to_square p q v from to))

equal_values : (x y : Linear) (s : List ℤ) (v w : ℤ) → are_equal x y ≡ true → Covers x s v → Covers y s w → v ≡ w
equal_values x y s v w equal left right =
    let parts = both_true (is_exact x && is_exact y) (is_same x.affine y.affine) equal in
    let exact = both_true (is_exact x) (is_exact y) parts.0 in
    exact_value x s v exact.0 left ∙ ap (λ a. value_at a s) ((is_same_decides x.affine y.affine).0 parts.1) ∙ sym (exact_value y s w exact.1 right)

product_covers : (bounds : Bounds) (x y : Linear) (s : List ℤ) (v w : ℤ) → LiesIn bounds s → Covers x s v → Covers y s w → Covers (product bounds x y) s (v *ℤ w)
product_covers bounds x y s v w inside left right =
    covers_either (is_number x) _ _ s (v *ℤ w)
    (λ is. subst (λ t. Covers (scaled y x.affine.constant) s t) (mul_commutes w x.affine.constant ∙ ap (λ t. t *ℤ w) (sym (number_value x s v is left))) (scaled_covers y x.affine.constant s w right))
    (λ varies. covers_either (is_number y) _ _ s (v *ℤ w)
    (λ is. subst (λ t. Covers (scaled x y.affine.constant) s (v *ℤ t)) (sym (number_value y s w is right)) (scaled_covers x y.affine.constant s v left))
    (λ both_vary. covers_either (are_equal x y) _ _ s (v *ℤ w)
    (λ equal. square_covers _ _ s v w (equal_values x y s v w equal left right) (from_least x bounds s v inside left) (up_to_greatest x bounds s v inside left))
    (λ differ. corners_cover _ _ _ _ s v w (from_least x bounds s v inside left) (up_to_greatest x bounds s v inside left) (from_least y bounds s w inside right) (up_to_greatest y bounds s w inside right))))

-- ---- quotients and remainders

-- what is divided by 0 has no quotient
divisor_not_0 : (a b q : ℤ) → Truncates a b q → b ≢ pos 0
divisor_not_0 a b q is zero_is = let small = is.small in let none : unsigned_abs b ≡ 0 = ap unsigned_abs zero_is in omega arith

unless_from : (t : Bool) (end : Option ℤ) (q : ℤ) → IsFrom end q → IsFrom (cond t None end) q
unless_from true end q from = tt
unless_from false end q from = from

unless_up_to : (t : Bool) (end : Option ℤ) (q : ℤ) → IsUpTo end q → IsUpTo (cond t None end) q
unless_up_to true end q to = tt
unless_up_to false end q to = to

quotient_from : (end : Option ℤ) (k : ℕ) (a q : ℤ) → q ≡ int_div a (pos (suc k)) → IsFrom end a → IsFrom (quotient_end end (pos (suc k))) q
quotient_from None k a q is from = tt
quotient_from (Some z) k a q is from =
    unless_from (int_eq (pos (suc k)) (pos 0)) _ q
    (from_end (int_div z (pos (suc k))) q (subst (λ t. int_div z (pos (suc k)) ≤ℤ t) (sym is) (grows z a (suc k) (omega arith) from)))

quotient_up_to : (end : Option ℤ) (k : ℕ) (a q : ℤ) → q ≡ int_div a (pos (suc k)) → IsUpTo end a → IsUpTo (quotient_end end (pos (suc k))) q
quotient_up_to None k a q is to = tt
quotient_up_to (Some z) k a q is to =
    unless_up_to (int_eq (pos (suc k)) (pos 0)) _ q
    (up_to_end (int_div z (pos (suc k))) q (subst (λ t. t ≤ℤ int_div z (pos (suc k))) (sym is) (grows a z (suc k) (omega arith) to)))

fallen_from : (end : Option ℤ) (k : ℕ) (a q : ℤ) → q ≡ int_div a (negsuc k) → IsUpTo end a → IsFrom (quotient_end end (negsuc k)) q
fallen_from None k a q is to = tt
fallen_from (Some z) k a q is to = from_end (int_div z (negsuc k)) q (subst (λ t. int_div z (negsuc k) ≤ℤ t) (sym is) (falls a z k to))

fallen_up_to : (end : Option ℤ) (k : ℕ) (a q : ℤ) → q ≡ int_div a (negsuc k) → IsFrom end a → IsUpTo (quotient_end end (negsuc k)) q
fallen_up_to None k a q is from = tt
fallen_up_to (Some z) k a q is from = up_to_end (int_div z (negsuc k)) q (subst (λ t. t ≤ℤ int_div z (negsuc k)) (sym is) (falls z a k from))

quotient_covers : (lo hi : Option ℤ) (b : ℤ) (s : List ℤ) (a q : ℤ) → Truncates a b q → IsFrom lo a → IsUpTo hi a → Covers (quotient_form lo hi b) s q
quotient_covers lo hi (pos zero) s a q is from to = absurd (divisor_not_0 a (pos 0) q is refl)
quotient_covers lo hi (pos (suc k)) s a q is from to =
    let one = only a (pos (suc k)) q (int_div a (pos (suc k))) is (truncates a (pos (suc k)) (divisor_not_0 a (pos (suc k)) q is)) in
    covers_either (int_lt (pos (suc k)) (pos 0)) _ _ s q (λ (e : int_lt (pos (suc k)) (pos 0) ≡ true). absurd (omega (arith, ints)))
    (λ e. ends_cover _ _ s q (quotient_from lo k a q one from) (quotient_up_to hi k a q one to))
quotient_covers lo hi (negsuc k) s a q is from to =
    let one = only a (negsuc k) q (int_div a (negsuc k)) is (truncates a (negsuc k) (divisor_not_0 a (negsuc k) q is)) in
    ends_cover _ _ s q (fallen_from hi k a q one to) (fallen_up_to lo k a q one from)

-- what is left is at least the one number, and at most the other
upper_first : (t : Bool) (z : ℕ) (x r : ℤ) → int_lt (pos 0) (pos (suc z)) ≡ t → r ≤ℤ x → r ≤ℤ cond t x (pos 0)
upper_first true z x r e h = h
upper_first false z x r e h = absurd (omega (arith, ints))

lower_either : (t : Bool) (x y r : ℤ) → x ≤ℤ r → y ≤ℤ r → cond t x y ≤ℤ r
lower_either true x y r h k = h
lower_either false x y r h k = k

left_from : (end : Option ℤ) (b a q : ℤ) → Truncates a b q → IsFrom end a → least_left end b ≤ℤ (a -ℤ q *ℤ b)
left_from None b a q is from = (left_between a b q is).0
left_from (Some (pos z)) b a q is from = lower_either (int_lt (pos z) (pos 0)) _ _ _ (left_between a b q is).0 (left_above a b q is (omega (arith, ints))).0
left_from (Some (negsuc z)) b a q is from = (left_between a b q is).0

left_up_to : (end : Option ℤ) (b a q : ℤ) → Truncates a b q → IsUpTo end a → (a -ℤ q *ℤ b) ≤ℤ most_left end b
left_up_to None b a q is to = (left_between a b q is).1
left_up_to (Some (pos zero)) b a q is to = is.sign.1 to
left_up_to (Some (pos (suc z))) b a q is to = upper_first (int_lt (pos 0) (pos (suc z))) z _ _ refl (left_between a b q is).1
left_up_to (Some (negsuc z)) b a q is to = is.sign.1 (omega (arith, ints))

remainder_covers : (lo hi : Option ℤ) (b : ℤ) (s : List ℤ) (a q : ℤ) → Truncates a b q → IsFrom lo a → IsUpTo hi a
    → Covers (remainder_form lo hi b) s (a -ℤ q *ℤ b)
remainder_covers lo hi b s a q is from to =
    ends_cover (Some (least_left lo b)) (Some (most_left hi b)) s (a -ℤ q *ℤ b) (left_from lo b a q is from) (left_up_to hi b a q is to)

-- ---- expressions

combined_covers : (op : Op2) (bounds : Bounds) (x y : Linear) (s : List ℤ) (a b v : ℤ) → LiesIn bounds s → Covers x s a → Covers y s b → Makes op a b v → Covers (combined_by op bounds x y) s v
combined_covers Add bounds x y s a b v inside left right makes = subst (Covers (total x y) s) (sym makes) (total_covers x y s a b left right)
combined_covers Sub bounds x y s a b v inside left right makes = subst (Covers (lessened x y) s) (sym makes) (lessened_covers x y s a b left right)
combined_covers Mul bounds x y s a b v inside left right makes = subst (Covers (product bounds x y) s) (sym makes) (product_covers bounds x y s a b inside left right)
combined_covers _ bounds x y s a b v inside left right makes = unknown_covers s v

pub linear_covers : (bounds : Bounds) (s : List ℤ) → LiesIn bounds s → (e : Expression) → NamesBelow 16 e → (v : ℤ) → May e s v → Covers (linear_of bounds e) s v
linear_covers bounds s inside (number z) named v may = exactly_covers (constant_of z) s v (may ∙ sym (value_constant z s))
linear_covers bounds s inside (variable x) named v may = exactly_covers (variable_at x) s v (may ∙ sym (value_variable x s named))
linear_covers bounds s inside free named v may = unknown_covers s v
linear_covers bounds s inside (range lo hi) named v may = ends_cover lo hi s v may.0 may.1
linear_covers bounds s inside (truth b) named v may = absurd may
linear_covers bounds s inside (negative e) named v may =
    let inner : Covers (linear_of bounds e) s may.0 = linear_covers bounds s inside e named may.0 may.1 in
    subst (Covers (scaled (linear_of bounds e) (negsuc 0)) s) (times_minus_one may.0 ∙ sym may.2) (scaled_covers (linear_of bounds e) (negsuc 0) s may.0 inner)
linear_covers bounds s inside (negation c) named v may = absurd may
linear_covers bounds s inside (divided quotient e b) named v may =
    let inner : Covers (linear_of bounds e) s may.0 = linear_covers bounds s inside e named may.0 may.2 in
    subst (Covers (linear_of bounds (divided quotient e b)) s) (sym may.4)
    (quotient_covers (least_value (linear_of bounds e) bounds) (greatest_value (linear_of bounds e) bounds) b s may.0 may.1 may.3
    (from_least (linear_of bounds e) bounds s may.0 inside inner) (up_to_greatest (linear_of bounds e) bounds s may.0 inside inner))
linear_covers bounds s inside (divided remainder e b) named v may =
    let inner : Covers (linear_of bounds e) s may.0 = linear_covers bounds s inside e named may.0 may.2 in
    subst (Covers (linear_of bounds (divided remainder e b)) s) (sym may.4)
    (remainder_covers (least_value (linear_of bounds e) bounds) (greatest_value (linear_of bounds e) bounds) b s may.0 may.1 may.3
    (from_least (linear_of bounds e) bounds s may.0 inside inner) (up_to_greatest (linear_of bounds e) bounds s may.0 inside inner))
linear_covers bounds s inside (pair op l r) named v may =
    combined_covers op bounds (linear_of bounds l) (linear_of bounds r) s may.0 may.1 v inside
    (linear_covers bounds s inside l named.0 may.0 may.2) (linear_covers bounds s inside r named.1 may.1 may.3) may.4
