-- The function of an affine expression, from those of its operands.
use Rattle.std.proofs.Common.{◌≡◌, ℕ, ◌<◌, ◌≤◌, ℤ, pos, negsuc, ◌+ℤ◌, ◌-ℤ◌, ◌*ℤ◌, neg_ℤ, Option, Some, None, SomeIff, if◌then◌else◌, ◌==◌, refl, sym, ap, subst, ◌∙◌, arith}
use Rattle.std.proofs.lemmas.Int.{ints}
use Rattle.linear_cons.specs.declared.affine.Affine.{Affine}
use Rattle.linear_cons.specs.Functions.{NumbersFit, coefficient, constant_of, difference_of, multiple_of, sum_of, variable_at}
use Rattle.linear_cons.specs.Numbers.{at_places}
use Rattle.linear_cons.proofs.Forms.{affine_same}
use Rattle.linear_cons.proofs.Places.{eqb_apart, fit_places, length-at_places, number_at_places, places_fit}
use Rattle.linear_cons.proofs.Ring.{add_zero, mul_commutes, zero_add, zero_mul}
use Rattle.step_meaning.specs.declared.expression.Op2.{Op2}
use Rattle.step_meaning.specs.declared.expression.Op2.TheVariants.{Add, Sub, Mul}
use Rattle.step_meaning.specs.Syntax.{Expression, number, variable, free, range, divided, truth, negative, negation, pair}
use Rattle.step_meaning.specs.Naming.{HasNoName}
use Rattle.step_meaning.specs.AffineExpressions.{ExpressionFits, FunctionFits, IsAffine, KeepsAffine, coefficient_by, coefficient_in, constant_in}
use Rattle.step_meaning.specs.Countdown.{form_of}

-- a function with the expression's numbers is the expression's function
pub is_form : (f : ℕ → ℤ) (c : ℤ) (e : Expression) → ((i : ℕ) → i < 16 → f i ≡ coefficient_in e i) → c ≡ constant_in e → record { coef = at_places f; constant = c } ≡ form_of e
is_form f c e same constants =
    let g : ℕ → ℤ = λ place. coefficient_in e place in
    let a : Affine = record { coef = at_places f; constant = c } in
    affine_same a (form_of e) (length-at_places f) (length-at_places g)
    (λ i h. number_at_places f i h ∙ same i h ∙ sym (number_at_places g i h)) constants

coefficient_of_form : (e : Expression) (i : ℕ) → i < 16 → coefficient (form_of e) i ≡ coefficient_in e i
coefficient_of_form e i low = number_at_places (λ place. coefficient_in e place) i low

pub form_fits : (e : Expression) → FunctionFits e → NumbersFit (form_of e)
form_fits e fit = record { coefficients = fit_places (λ place. coefficient_in e place) fit.coefficients; constants = fit.constants }

pub fits_form : (e : Expression) → NumbersFit (form_of e) → FunctionFits e
fits_form e fit = record { coefficients = places_fit (λ place. coefficient_in e place) fit.coefficients; constants = fit.constants }

-- ---- a variable, sums, differences, negations

-- a variable past the last place has no coefficient
pub no_place : (place : ℕ) → 16 ≤ place → constant_of (pos 0) ≡ variable_at place
no_place place past =
    sym (is_form (λ i. if i == place then pos 1 else pos 0) (pos 0) (number (pos 0))
    (λ i h. rw (eqb_apart i place (omega arith)) refl) refl)

pub form_of_sum : (l r : Expression) → sum_of (form_of l) (form_of r) ≡ form_of (pair Add l r)
form_of_sum l r =
    is_form (λ i. coefficient (form_of l) i +ℤ coefficient (form_of r) i) (constant_in l +ℤ constant_in r) (pair Add l r)
    (λ i h. rw (coefficient_of_form l i h, coefficient_of_form r i h) refl) refl

pub form_of_difference : (l r : Expression) → difference_of (form_of l) (form_of r) ≡ form_of (pair Sub l r)
form_of_difference l r =
    is_form (λ i. coefficient (form_of l) i -ℤ coefficient (form_of r) i) (constant_in l -ℤ constant_in r) (pair Sub l r)
    (λ i h. rw (coefficient_of_form l i h, coefficient_of_form r i h) refl) refl

times_minus_one : (a : ℤ) → a *ℤ negsuc 0 ≡ neg_ℤ a
times_minus_one a = omega (arith, ints)

pub form_of_negative : (e : Expression) → multiple_of (form_of e) (negsuc 0) ≡ form_of (negative e)
form_of_negative e =
    is_form (λ i. coefficient (form_of e) i *ℤ negsuc 0) (constant_in e *ℤ negsuc 0) (negative e)
    (λ i h. rw (coefficient_of_form e i h) (times_minus_one (coefficient_in e i))) (times_minus_one (constant_in e))

-- ---- products

coefficient_by_none : (op : Op2) (c d : ℤ) → coefficient_by op (pos 0) (pos 0) c d ≡ pos 0
coefficient_by_none Add c d = refl
coefficient_by_none Sub c d = refl
coefficient_by_none Mul c d = rw (zero_mul d, zero_mul c) refl
coefficient_by_none _ c d = refl

-- without names there is no coefficient
coefficient_without_names : (e : Expression) → HasNoName e → (i : ℕ) → coefficient_in e i ≡ pos 0
coefficient_without_names (number z) none i = refl
coefficient_without_names (variable x) none i = absurd none
coefficient_without_names free none i = refl
coefficient_without_names (range lo hi) none i = refl
coefficient_without_names (divided division e b) none i = refl
coefficient_without_names (truth b) none i = refl
coefficient_without_names (negative e) none i = rw (coefficient_without_names e none i) refl
coefficient_without_names (negation c) none i = refl
coefficient_without_names (pair op l r) none i =
    rw (coefficient_without_names l none.0 i, coefficient_without_names r none.1 i) (coefficient_by_none op (constant_in l) (constant_in r))

pub product_with_left : (l r : Expression) → HasNoName l → multiple_of (form_of r) (constant_in l) ≡ form_of (pair Mul l r)
product_with_left l r none =
    is_form (λ i. coefficient (form_of r) i *ℤ constant_in l) (constant_in r *ℤ constant_in l) (pair Mul l r)
    (λ i h.
    rw (coefficient_of_form r i h, coefficient_without_names l none i, zero_mul (constant_in r)) (sym (zero_add (coefficient_in r i *ℤ constant_in l))))
    (mul_commutes (constant_in r) (constant_in l))

pub product_with_right : (l r : Expression) → HasNoName r → multiple_of (form_of l) (constant_in r) ≡ form_of (pair Mul l r)
product_with_right l r none =
    is_form (λ i. coefficient (form_of l) i *ℤ constant_in r) (constant_in l *ℤ constant_in r) (pair Mul l r)
    (λ i h.
    rw (coefficient_of_form l i h, coefficient_without_names r none i, zero_mul (constant_in l)) (sym (add_zero (coefficient_in l i *ℤ constant_in r))))
    refl

-- ---- what is answered for an operator

-- the same value under a fact that says the same
pub some_iff_same : {T : Type 0} (o : Option T) (P Q : Type 0) (v w : T) → (P → Q) → (Q → P) → v ≡ w → SomeIff o P v → SomeIff o Q w
some_iff_same (Some x) P Q v w there back e h = (there h.0, h.1 ∙ e)
some_iff_same None P Q v w there back s h = λ q. h (back q)

-- the function of the expression is known, and its numbers fit
abbrev pub IsKnown : Expression → Type 0
IsKnown e = IsAffine e × ExpressionFits e

pub answered_negative : (o : Option Affine) (a : Affine) (e : Expression) → IsKnown e → a ≡ form_of e → SomeIff o (NumbersFit (multiple_of a (negsuc 0))) (multiple_of a (negsuc 0)) → SomeIff o (IsKnown (negative e)) (form_of (negative e))
answered_negative o a e known is h =
    let same : multiple_of a (negsuc 0) ≡ form_of (negative e) = ap (λ t. multiple_of t (negsuc 0)) is ∙ form_of_negative e in
    some_iff_same o (NumbersFit (multiple_of a (negsuc 0))) (IsKnown (negative e)) (multiple_of a (negsuc 0)) (form_of (negative e))
    (λ fit. (known.0, (known.1, fits_form (negative e) (subst NumbersFit same fit))))
    (λ all. subst NumbersFit (sym same) (form_fits (negative e) all.1.1)) same h

pub answered_pair : (o : Option Affine) (a : Affine) (op : Op2) (l r : Expression) → IsKnown l → IsKnown r → KeepsAffine op l r → a ≡ form_of (pair op l r) → SomeIff o (NumbersFit a) a → SomeIff o (IsKnown (pair op l r)) (form_of (pair op l r))
answered_pair o a op l r left right keeps same h =
    some_iff_same o (NumbersFit a) (IsKnown (pair op l r)) a (form_of (pair op l r))
    (λ fit. ((left.0, right.0, keeps), (left.1, right.1, fits_form (pair op l r) (subst NumbersFit same fit))))
    (λ all. subst NumbersFit (sym same) (form_fits (pair op l r) all.1.2)) same h
