-- The linear form of an affine expression whose numbers fit is exactly its function, and the expression gives this function's value.
use Rattle.std.proofs.Common.{int_lt, ◌≡◌, ℕ, ◌<◌, ℤ, pos, negsuc, neg_ℤ, ◌+ℤ◌, ◌-ℤ◌, ◌*ℤ◌, Bool, true, false, cond, eqb, ◌⊎◌, inl, inr, ⊎_elim, Option, Some, None, List, refl, sym, subst, ap, ◌∙◌, arith}
use Rattle.std.proofs.lemmas.Int.{ints}
use Rattle.step_meaning.specs.declared.expression.Op2.{Op2}
use Rattle.step_meaning.specs.declared.expression.Op2.TheVariants.{Add, Sub, Mul}
use Rattle.step_meaning.specs.Syntax.{Expression, number, variable, free, range, truth, negative, negation, pair, divided, quotient, remainder}
use Rattle.step_meaning.specs.Naming.{IsUnnamed, NamesBelow}
use Rattle.step_meaning.specs.AffineExpressions.{ExpressionFits, FunctionFits, IsAffine, KeepsAffine, constant_in}
use Rattle.step_meaning.specs.Outcome.{Makes, May}
use Rattle.linear_cons.specs.declared.affine.Affine.{Affine}
use Rattle.linear_cons.specs.declared.bounds.Bounds.{Bounds}
use Rattle.linear_cons.specs.declared.bounds.Linear.{Linear}
use Rattle.linear_cons.specs.Functions.{NumbersFit, coefficient, constant_of, difference_of, multiple_of, sum_of, value_at}
use Rattle.linear_cons.proofs.Forms.{value_constant, value_difference, value_multiple, value_sum, value_variable}
use Rattle.linear_cons.proofs.Places.{eqb_apart, number_at_places}
use Rattle.linear_cons.proofs.Ring.{mul_commutes, zero_mul}
use Rattle.linear_cons.specs.Ends.{exact_end, exactly, fits, greatest_value, least_value, scaled_end}
use Rattle.linear_forms.specs.Linearising.{are_equal, combined_by, corners, is_constant, is_number, linear_of, numbers_fit, product, scaled, unknown, with_ends, between}
use Rattle.step_meaning.specs.Countdown.{form_of}
use Rattle.linear_forms.proofs.AffineForms.{form_fits, form_of_difference, form_of_negative, form_of_sum, form_without_names, product_with_left, product_with_right, scaled_left, scaled_right}
use Rattle.linear_forms.proofs.Known.{constant_form_is, is_same_decides, with_ends_fit}
use Rattle.linear_cons.proofs.KnownEnds.{when_not, when_so}

-- ---- exact forms of exact operands

exact_ends : (a : Affine) → NumbersFit a → with_ends a (Some (pos 0)) (Some (pos 0)) ≡ exactly a
exact_ends a fit = with_ends_fit a (Some (pos 0)) (Some (pos 0)) fit

as_form : (a : Affine) (e : Expression) → a ≡ form_of e → FunctionFits e → with_ends a (Some (pos 0)) (Some (pos 0)) ≡ exactly (form_of e)
as_form a e is fit = ap (λ t. with_ends t (Some (pos 0)) (Some (pos 0))) is ∙ exact_ends (form_of e) (form_fits e fit)

nought_scaled : (k : ℤ) → scaled_end k (Some (pos 0)) (Some (pos 0)) ≡ Some (pos 0)
unfolding fits
nought_scaled (pos n) = ap exact_end (zero_mul (pos n))
nought_scaled (negsuc n) = ap exact_end (zero_mul (negsuc n))

scaled_exact : (a : Affine) (k : ℤ) (e : Expression) → multiple_of a k ≡ form_of e → FunctionFits e → scaled (exactly a) k ≡ exactly (form_of e)
scaled_exact a k e is fit = ap (λ t. with_ends (multiple_of a k) t t) (nought_scaled k) ∙ as_form (multiple_of a k) e is fit

right_is_number : (l r : Expression) → KeepsAffine Mul l r → is_constant (form_of l) ≡ false → is_constant (form_of r) ≡ true
right_is_number l r (inl none) varies =
    absurd (let is = (is_same_decides (form_of l) (constant_of (constant_in l))).1 (form_without_names l none) in cc)
right_is_number l r (inr none) varies = (is_same_decides (form_of r) (constant_of (constant_in r))).1 (form_without_names r none)

pub true_or_false : (b : Bool) → (b ≡ true) ⊎ (b ≡ false)
true_or_false true = inl refl
true_or_false false = inr refl

product_exact : (bounds : Bounds) (l r : Expression) → KeepsAffine Mul l r → FunctionFits (pair Mul l r) → product bounds (exactly (form_of l)) (exactly (form_of r)) ≡ exactly (form_of (pair Mul l r))
product_exact bounds l r affine fit = ⊎_elim
    (λ (constant : is_constant (form_of l) ≡ true).
    when_so (is_constant (form_of l)) _ _ constant
    ∙ scaled_exact (form_of r) (constant_in l) (pair Mul l r) (scaled_right l r (form_of l) (form_of r) refl refl constant) fit)
    (λ (varies : is_constant (form_of l) ≡ false).
    when_not (is_constant (form_of l)) _ _ varies
    ∙ when_so (is_constant (form_of r)) _ _ (right_is_number l r affine varies)
    ∙ scaled_exact (form_of l) (constant_in r) (pair Mul l r) (scaled_left l r (form_of l) (form_of r) refl refl affine varies) fit)
    (true_or_false (is_constant (form_of l)))

combined_exact : (op : Op2) (bounds : Bounds) (l r : Expression) → KeepsAffine op l r → FunctionFits (pair op l r) → combined_by op bounds (exactly (form_of l)) (exactly (form_of r)) ≡ exactly (form_of (pair op l r))
unfolding fits
combined_exact Add bounds l r affine fit = as_form (sum_of (form_of l) (form_of r)) (pair Add l r) (form_of_sum l r) fit
combined_exact Sub bounds l r affine fit = as_form (difference_of (form_of l) (form_of r)) (pair Sub l r) (form_of_difference l r) fit
combined_exact Mul bounds l r affine fit = product_exact bounds l r affine fit
combined_exact _ bounds l r affine fit = absurd affine

pub linear_exact : (bounds : Bounds) (e : Expression) → IsAffine e → ExpressionFits e → linear_of bounds e ≡ exactly (form_of e)
linear_exact bounds (number z) affine fit = refl
linear_exact bounds (variable x) affine fit = refl
linear_exact bounds free affine fit = absurd affine
linear_exact bounds (range lo hi) affine fit = absurd affine
linear_exact bounds (truth b) affine fit = absurd affine
linear_exact bounds (negation c) affine fit = absurd affine
linear_exact bounds (divided division e b) affine fit = absurd affine
linear_exact bounds (negative e) affine fit = ap (λ t. scaled t (negsuc 0)) (linear_exact bounds e affine fit.0) ∙ scaled_exact (form_of e) (negsuc 0) (negative e) (form_of_negative e) fit.1
linear_exact bounds (pair op l r) affine fit =
    ap (λ t. combined_by op bounds t (linear_of bounds r)) (linear_exact bounds l affine.0 fit.0)
    ∙ ap (combined_by op bounds (exactly (form_of l))) (linear_exact bounds r affine.1 fit.1)
    ∙ combined_exact op bounds l r affine.2 fit.2

-- ---- the one value of an affine expression

value_of_product : (l r : Expression) (s : List ℤ) → KeepsAffine Mul l r → value_at (form_of (pair Mul l r)) s ≡ value_at (form_of l) s *ℤ value_at (form_of r) s
value_of_product l r s (inl none) =
    let fixed : form_of l ≡ constant_of (constant_in l) = form_without_names l none in
    ap (λ t. value_at t s) (sym (product_with_left l r (constant_form_is (form_of l) fixed)))
    ∙ value_multiple (form_of r) (constant_in l) s
    ∙ ap (λ t. t *ℤ value_at (form_of r) s) (sym (ap (λ t. value_at t s) fixed ∙ value_constant (constant_in l) s))
value_of_product l r s (inr none) =
    let fixed : form_of r ≡ constant_of (constant_in r) = form_without_names r none in
    ap (λ t. value_at t s) (sym (product_with_right l r (constant_form_is (form_of r) fixed)))
    ∙ value_multiple (form_of l) (constant_in r) s
    ∙ mul_commutes (constant_in r) (value_at (form_of l) s)
    ∙ ap (λ t. value_at (form_of l) s *ℤ t) (sym (ap (λ t. value_at t s) fixed ∙ value_constant (constant_in r) s))

value_of_two : (op : Op2) (l r : Expression) (s : List ℤ) → KeepsAffine op l r → Makes op (value_at (form_of l) s) (value_at (form_of r) s) (value_at (form_of (pair op l r)) s)
value_of_two Add l r s affine = ap (λ t. value_at t s) (sym (form_of_sum l r)) ∙ value_sum (form_of l) (form_of r) s
value_of_two Sub l r s affine = ap (λ t. value_at t s) (sym (form_of_difference l r)) ∙ value_difference (form_of l) (form_of r) s
value_of_two Mul l r s affine = value_of_product l r s affine
value_of_two _ l r s affine = absurd affine

value_of_negative : (e : Expression) (s : List ℤ) → value_at (form_of (negative e)) s ≡ neg_ℤ (value_at (form_of e) s)
value_of_negative e s = ap (λ t. value_at t s) (sym (form_of_negative e)) ∙ value_multiple (form_of e) (negsuc 0) s ∙ minus_one (value_at (form_of e) s)
  where
    minus_one : (a : ℤ) → negsuc 0 *ℤ a ≡ neg_ℤ a
    minus_one a = omega (arith, ints)

-- it may have its function's value
pub may_have_value : (s : List ℤ) (e : Expression) → NamesBelow 16 e → IsAffine e → May e s (value_at (form_of e) s)
may_have_value s (number z) named affine = value_constant z s
may_have_value s (variable x) named affine = value_variable x s named
may_have_value s free named affine = absurd affine
may_have_value s (range lo hi) named affine = absurd affine
may_have_value s (truth b) named affine = absurd affine
may_have_value s (negation c) named affine = absurd affine
may_have_value s (divided division e b) named affine = absurd affine
may_have_value s (negative e) named affine = (value_at (form_of e) s, may_have_value s e named affine, value_of_negative e s)
may_have_value s (pair op l r) named affine =
    (value_at (form_of l) s, value_at (form_of r) s, may_have_value s l named.0 affine.0, may_have_value s r named.1 affine.1, value_of_two op l r s affine.2)

-- and no other
one_result : (op : Op2) (a b v w : ℤ) → Makes op a b v → Makes op a b w → v ≡ w
one_result Add a b v w h k = h ∙ sym k
one_result Sub a b v w h k = h ∙ sym k
one_result Mul a b v w h k = h ∙ sym k
one_result _ a b v w h k = absurd h

pub only_value : (s : List ℤ) (e : Expression) → NamesBelow 16 e → IsAffine e → (v : ℤ) → May e s v → v ≡ value_at (form_of e) s
only_value s (number z) named affine v may = may ∙ sym (value_constant z s)
only_value s (variable x) named affine v may = may ∙ sym (value_variable x s named)
only_value s free named affine v may = absurd affine
only_value s (range lo hi) named affine v may = absurd affine
only_value s (truth b) named affine v may = absurd affine
only_value s (negation c) named affine v may = absurd affine
only_value s (divided division e b) named affine v may = absurd affine
only_value s (negative e) named affine v may =
    may.2 ∙ ap neg_ℤ (only_value s e named affine may.0 may.1) ∙ sym (value_of_negative e s)
only_value s (pair op l r) named affine v may =
    let left = only_value s l named.0 affine.0 may.0 may.2 in
    let right = only_value s r named.1 affine.1 may.1 may.3 in
    one_result op (value_at (form_of l) s) (value_at (form_of r) s) v (value_at (form_of (pair op l r)) s)
    (subst (λ t. Makes op (value_at (form_of l) s) t v) right (subst (λ t. Makes op t may.1 v) left may.4))
    (value_of_two op l r s affine.2)

-- ---- places that aren't named

module _ (i : ℕ) (low : i < 16) where
  nought_at : coefficient (constant_of (pos 0)) i ≡ pos 0
  nought_at = number_at_places (λ j. pos 0) i low

  either_unnamed : (b : Bool) (x y : Linear) → coefficient x.affine i ≡ pos 0 → coefficient y.affine i ≡ pos 0 → coefficient (cond b x y).affine i ≡ pos 0
  either_unnamed true x y h k = h
  either_unnamed false x y h k = k

  ends_unnamed : (a : Affine) (lo hi : Option ℤ) → coefficient a i ≡ pos 0 → coefficient (with_ends a lo hi).affine i ≡ pos 0
  ends_unnamed a lo hi none = either_unnamed (numbers_fit a) (record { affine = a; lo = lo; hi = hi }) unknown none nought_at

  scaled_unnamed : (x : Linear) (k : ℤ) → coefficient x.affine i ≡ pos 0 → coefficient (scaled x k).affine i ≡ pos 0
  scaled_unnamed x k none =
      ends_unnamed (multiple_of x.affine k) _ _ (number_at_places (λ j. coefficient x.affine j *ℤ k) i low ∙ ap (λ t. t *ℤ k) none ∙ zero_mul k)

  corners_unnamed : (p q r t : Option ℤ) → coefficient (corners p q r t).affine i ≡ pos 0
  corners_unnamed (Some a) (Some b) (Some c) (Some d) = nought_at
  corners_unnamed None q r t = nought_at
  corners_unnamed (Some a) None r t = nought_at
  corners_unnamed (Some a) (Some b) None t = nought_at
  corners_unnamed (Some a) (Some b) (Some c) None = nought_at

  combined_unnamed : (op : Op2) (bounds : Bounds) (x y : Linear) → coefficient x.affine i ≡ pos 0 → coefficient y.affine i ≡ pos 0 → coefficient (combined_by op bounds x y).affine i ≡ pos 0
  combined_unnamed Add bounds x y h k =
      ends_unnamed (sum_of x.affine y.affine) _ _ (number_at_places (λ j. coefficient x.affine j +ℤ coefficient y.affine j) i low ∙ rw (h, k) refl)
  combined_unnamed Sub bounds x y h k =
      ends_unnamed (difference_of x.affine y.affine) _ _ (number_at_places (λ j. coefficient x.affine j -ℤ coefficient y.affine j) i low ∙ rw (h, k) refl)
  combined_unnamed Mul bounds x y h k =
      either_unnamed (is_number x) _ _ (scaled_unnamed y x.affine.constant k)
      (either_unnamed (is_number y) _ _ (scaled_unnamed x y.affine.constant h)
      (either_unnamed (are_equal x y) _ _ nought_at (corners_unnamed (least_value x bounds) (greatest_value x bounds) (least_value y bounds) (greatest_value y bounds))))
  combined_unnamed _ bounds x y h k = nought_at

  -- the function mentions only places that the expression names
  pub only_named : (bounds : Bounds) (e : Expression) → IsUnnamed i e → coefficient (linear_of bounds e).affine i ≡ pos 0
  only_named bounds (number z) none = number_at_places (λ j. pos 0) i low
  only_named bounds (variable x) apart = number_at_places (λ j. cond (eqb j x) (pos 1) (pos 0)) i low ∙ ap (λ t. cond t (pos 1) (pos 0)) (eqb_apart i x apart)
  only_named bounds free none = nought_at
  only_named bounds (range lo hi) none = nought_at
  only_named bounds (truth b) none = nought_at
  only_named bounds (negation c) none = nought_at
  only_named bounds (divided quotient e b) none = either_unnamed (int_lt b (pos 0)) (between _ _) (between _ _) nought_at nought_at
  only_named bounds (divided remainder e b) none = nought_at
  only_named bounds (negative e) none = scaled_unnamed (linear_of bounds e) (negsuc 0) (only_named bounds e none)
  only_named bounds (pair op l r) none = combined_unnamed op bounds (linear_of bounds l) (linear_of bounds r) (only_named bounds l none.0) (only_named bounds r none.1)
