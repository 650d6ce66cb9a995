-- The function of an affine expression, and those of its operands.
use Rattle.std.proofs.Common.{◌≡◌, ℕ, ◌<◌, ℤ, pos, negsuc, ◌+ℤ◌, ◌-ℤ◌, ◌*ℤ◌, neg_ℤ, inl, inr, Result, OkIff, true, false, refl, sym, ap, subst, ◌∙◌, arith}
use Rattle.std.proofs.lemmas.Int.{ints}
use Rattle.step_meaning.specs.declared.expression.Op2.{Op2}
use Rattle.step_meaning.specs.declared.expression.Op2.TheVariants.{Add, Sub, Mul}
use Rattle.step_meaning.specs.Syntax.{Expression, number, variable, free, range, truth, negative, negation, pair, divided}
use Rattle.step_meaning.specs.Naming.{HasNoName}
use Rattle.step_meaning.specs.AffineExpressions.{FunctionFits, KeepsAffine, coefficient_by, coefficient_in, constant_in, strictly_less}
use Rattle.linear_cons.specs.declared.affine.Affine.{Affine}
use Rattle.linear_cons.specs.declared.exact.Wide.{Wide}
use Rattle.linear_cons.specs.Functions.{IsConstant, NumbersFit, coefficient, constant_of, difference_of, multiple_of, sum_of}
use Rattle.linear_cons.specs.Numbers.{at_places}
use Rattle.linear_cons.proofs.Forms.{affine_of_parts}
use Rattle.linear_cons.proofs.Outcomes.{ok_iff_same}
use Rattle.linear_cons.proofs.Places.{fit_places, length-at_places, number_at_places, places-ext, places_fit}
use Rattle.linear_cons.proofs.Ring.{add_zero, mul_commutes, zero_add, zero_mul}
use Rattle.linear_forms.specs.Linearising.{is_constant}
use Rattle.step_meaning.specs.Countdown.{form_of}
use Rattle.linear_forms.proofs.Known.{constant_form_is, is_same_decides}

-- a function with the expression's numbers is the expression's function
pub is_form : (f : ℕ → ℤ) (c : ℤ) (e : Expression) → ((i : ℕ) → i < 16 → f i ≡ coefficient_in e i) → c ≡ constant_in e → record { coef = at_places f; constant = c } ≡ form_of e
is_form f c e same constants =
    let g : ℕ → ℤ = λ place. coefficient_in e place in
    affine_of_parts (record { coef = at_places f; constant = c }) (form_of e)
    (places-ext (at_places f) (at_places g) (length-at_places f) (length-at_places g) (λ i h. number_at_places f i h ∙ same i h ∙ sym (number_at_places g i h)))
    constants

pub coefficient_of_form : (e : Expression) (i : ℕ) → i < 16 → coefficient (form_of e) i ≡ coefficient_in e i
coefficient_of_form e i low = number_at_places (λ place. coefficient_in e place) i low

pub form_fits : (e : Expression) → FunctionFits e → NumbersFit (form_of e)
form_fits e fit = record { coefficients = fit_places (λ place. coefficient_in e place) fit.coefficients; constants = fit.constants }

pub fits_form : (e : Expression) → NumbersFit (form_of e) → FunctionFits e
fits_form e fit = record { coefficients = places_fit (λ place. coefficient_in e place) fit.coefficients; constants = fit.constants }

-- ---- sums, differences, negations

pub form_of_sum : (l r : Expression) → sum_of (form_of l) (form_of r) ≡ form_of (pair Add l r)
form_of_sum l r =
    is_form (λ i. coefficient (form_of l) i +ℤ coefficient (form_of r) i) (constant_in l +ℤ constant_in r) (pair Add l r)
    (λ i h. rw (coefficient_of_form l i h, coefficient_of_form r i h) refl) refl

pub form_of_difference : (l r : Expression) → difference_of (form_of l) (form_of r) ≡ form_of (pair Sub l r)
form_of_difference l r =
    is_form (λ i. coefficient (form_of l) i -ℤ coefficient (form_of r) i) (constant_in l -ℤ constant_in r) (pair Sub l r)
    (λ i h. rw (coefficient_of_form l i h, coefficient_of_form r i h) refl) refl

pub form_of_strict_difference : (l r : Expression) → difference_of (form_of (pair Sub l r)) (constant_of (pos 1)) ≡ form_of (strictly_less l r)
form_of_strict_difference l r = form_of_difference (pair Sub l r) (number (pos 1))

pub times_minus_one : (a : ℤ) → a *ℤ negsuc 0 ≡ neg_ℤ a
times_minus_one a = omega (arith, ints)

pub form_of_negative : (e : Expression) → multiple_of (form_of e) (negsuc 0) ≡ form_of (negative e)
form_of_negative e =
    is_form (λ i. coefficient (form_of e) i *ℤ negsuc 0) (constant_in e *ℤ negsuc 0) (negative e)
    (λ i h. rw (coefficient_of_form e i h) (times_minus_one (coefficient_in e i))) (times_minus_one (constant_in e))

-- ---- products

coefficient_by_none : (op : Op2) (c d : ℤ) → coefficient_by op (pos 0) (pos 0) c d ≡ pos 0
coefficient_by_none Add c d = refl
coefficient_by_none Sub c d = refl
coefficient_by_none Mul c d = rw (zero_mul d, zero_mul c) refl
coefficient_by_none _ c d = refl

-- without names there is no coefficient
pub coefficient_without_names : (e : Expression) → HasNoName e → (i : ℕ) → coefficient_in e i ≡ pos 0
coefficient_without_names (number z) none i = refl
coefficient_without_names (variable x) none i = absurd none
coefficient_without_names free none i = refl
coefficient_without_names (range lo hi) none i = refl
coefficient_without_names (truth b) none i = refl
coefficient_without_names (divided division e b) none i = refl
coefficient_without_names (negative e) none i = rw (coefficient_without_names e none i) refl
coefficient_without_names (negation c) none i = refl
coefficient_without_names (pair op l r) none i =
    rw (coefficient_without_names l none.0 i, coefficient_without_names r none.1 i) (coefficient_by_none op (constant_in l) (constant_in r))

pub form_without_names : (e : Expression) → HasNoName e → form_of e ≡ constant_of (constant_in e)
form_without_names e none = sym (is_form (λ i. pos 0) (constant_in e) e (λ i h. sym (coefficient_without_names e none i)) refl)

pub product_with_left : (l r : Expression) → IsConstant (form_of l) → multiple_of (form_of r) (constant_in l) ≡ form_of (pair Mul l r)
product_with_left l r none =
    is_form (λ i. coefficient (form_of r) i *ℤ constant_in l) (constant_in r *ℤ constant_in l) (pair Mul l r)
    (λ i h.
    let nought : coefficient_in l i ≡ pos 0 = sym (coefficient_of_form l i h) ∙ none i h in
    rw (coefficient_of_form r i h, nought, zero_mul (constant_in r)) (sym (zero_add (coefficient_in r i *ℤ constant_in l))))
    (mul_commutes (constant_in r) (constant_in l))

pub product_with_right : (l r : Expression) → IsConstant (form_of r) → multiple_of (form_of l) (constant_in r) ≡ form_of (pair Mul l r)
product_with_right l r none =
    is_form (λ i. coefficient (form_of l) i *ℤ constant_in r) (constant_in l *ℤ constant_in r) (pair Mul l r)
    (λ i h.
    let nought : coefficient_in r i ≡ pos 0 = sym (coefficient_of_form r i h) ∙ none i h in
    rw (coefficient_of_form l i h, nought, zero_mul (constant_in l)) (sym (add_zero (coefficient_in l i *ℤ constant_in r))))
    refl

-- of two factors of which one has no name, the right one has none where the left one's function isn't constant
pub right_is_constant : (l r : Expression) → KeepsAffine Mul l r → is_constant (form_of l) ≡ false → IsConstant (form_of r)
right_is_constant l r (inl none) varies =
    absurd (let is = (is_same_decides (form_of l) (constant_of (constant_in l))).1 (form_without_names l none) in cc)
right_is_constant l r (inr none) varies = constant_form_is (form_of r) (form_without_names r none)

-- ---- what a call on the operands' functions answers

pub whole_of_one : (r : Result Affine Wide) (a : Affine) (e : Expression) {P : Type 0} → P → a ≡ form_of e → OkIff r (NumbersFit a) a → OkIff r (P × FunctionFits e) (form_of e)
whole_of_one r a e {P} p is h =
    ok_iff_same r (NumbersFit a) (P × FunctionFits e) a (form_of e)
    (λ fit. (p, fits_form e (subst NumbersFit is fit))) (λ fit. subst NumbersFit (sym is) (form_fits e fit.1)) is h

pub whole_of_two : (r : Result Affine Wide) (a : Affine) (e : Expression) {P Q : Type 0} → P → Q → a ≡ form_of e → OkIff r (NumbersFit a) a → OkIff r (P × Q × FunctionFits e) (form_of e)
whole_of_two r a e {P} {Q} p q is h =
    ok_iff_same r (NumbersFit a) (P × Q × FunctionFits e) a (form_of e)
    (λ fit. (p, q, fits_form e (subst NumbersFit is fit))) (λ fit. subst NumbersFit (sym is) (form_fits e fit.2)) is h

pub scaled_right : (l r : Expression) (x y : Affine) → x ≡ form_of l → y ≡ form_of r → is_constant x ≡ true → multiple_of y x.constant ≡ form_of (pair Mul l r)
scaled_right l r x y left right constant =
    let fixed : IsConstant (form_of l) = subst IsConstant left (constant_form_is x ((is_same_decides x (constant_of x.constant)).0 constant)) in
    ap (λ t. multiple_of t x.constant) right
    ∙ ap (λ (t : Affine). multiple_of (form_of r) t.constant) left
    ∙ product_with_left l r fixed

pub scaled_left : (l r : Expression) (x y : Affine) → x ≡ form_of l → y ≡ form_of r → KeepsAffine Mul l r → is_constant x ≡ false → multiple_of x y.constant ≡ form_of (pair Mul l r)
scaled_left l r x y left right affine varies =
    ap (λ t. multiple_of t y.constant) left
    ∙ ap (λ (t : Affine). multiple_of (form_of l) t.constant) right
    ∙ product_with_right l r (right_is_constant l r affine (ap is_constant (sym left) ∙ varies))
