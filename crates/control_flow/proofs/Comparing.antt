-- When the numbers of a comparison fit, by the functions of its sides.
use Rattle.std.proofs.Common.{◌≡◌, pos, Result, Ok, Err, sym, ap, subst, ◌∙◌}
use Rattle.std.specs.Result.{OnErr}
use Rattle.linear_cons.specs.Functions.{NumbersFit, constant_of, difference_of}
use Rattle.linear_cons.specs.declared.affine.Affine.{Affine}
use Rattle.step_meaning.specs.Countdown.{form_of}
use Rattle.linear_forms.proofs.AffineForms.{fits_form, form_fits, form_of_difference, form_of_strict_difference}
use Rattle.step_meaning.specs.AffineExpressions.{ComparisonFits, ExpressionFits, less, strictly_less}
use Rattle.step_meaning.specs.Syntax.{Expression}

module _ (l r : Expression) (f g : Affine) (left : f ≡ form_of l) (right : g ≡ form_of r) where
  difference_is : difference_of f g ≡ form_of (less l r)
  difference_is = ap (λ t. difference_of t g) left ∙ ap (difference_of (form_of l)) right ∙ form_of_difference l r

  strict_is : difference_of (difference_of f g) (constant_of (pos 1)) ≡ form_of (strictly_less l r)
  strict_is = ap (λ t. difference_of t (constant_of (pos 1))) difference_is ∙ form_of_strict_difference l r

pub comparison_fits : (l r : Expression) (f g : Affine) → f ≡ form_of l → g ≡ form_of r → ExpressionFits l → ExpressionFits r
    → NumbersFit (difference_of f g) → NumbersFit (difference_of (difference_of f g) (constant_of (pos 1)))
    → NumbersFit (difference_of g f) → NumbersFit (difference_of (difference_of g f) (constant_of (pos 1))) → ComparisonFits l r
comparison_fits l r f g left right first second own strict other opposite = record {
  left = first;
  right = second;
  difference = fits_form (less l r) (subst NumbersFit (difference_is l r f g left right) own);
  opposite = fits_form (less r l) (subst NumbersFit (difference_is r l g f right left) other);
  strict_difference = fits_form (strictly_less l r) (subst NumbersFit (strict_is l r f g left right) strict);
  strict_opposite = fits_form (strictly_less r l) (subst NumbersFit (strict_is r l g f right left) opposite);
}

module _ (l r : Expression) (f g : Affine) (left : f ≡ form_of l) (right : g ≡ form_of r) (fits : ComparisonFits l r) where
  pub own_fits : NumbersFit (difference_of f g) × NumbersFit (difference_of (difference_of f g) (constant_of (pos 1)))
  own_fits = (
    subst NumbersFit (sym (difference_is l r f g left right)) (form_fits (less l r) fits.difference),
    subst NumbersFit (sym (strict_is l r f g left right)) (form_fits (strictly_less l r) fits.strict_difference),
  )

  pub other_fits : NumbersFit (difference_of g f) × NumbersFit (difference_of (difference_of g f) (constant_of (pos 1)))
  other_fits = (
    subst NumbersFit (sym (difference_is r l g f right left)) (form_fits (less r l) fits.opposite),
    subst NumbersFit (sym (strict_is r l g f right left)) (form_fits (strictly_less r l) fits.strict_opposite),
  )

-- what holds of any fault
pub on_any : {T E P : Type 0} (r : Result T E) → P → OnErr r P
on_any (Ok x) p = tt
on_any (Err e) p = p
