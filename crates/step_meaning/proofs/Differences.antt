-- The functions of the differences of a comparison's sides.
use Rattle.std.proofs.Common.{◌≡◌, pos, sym, ap, subst, ◌∙◌}
use Rattle.linear_cons.specs.declared.affine.Affine.{Affine}
use Rattle.linear_cons.specs.Functions.{NumbersFit, constant_of, difference_of}
use Rattle.step_meaning.specs.declared.countdown.Differences.{Differences}
use Rattle.step_meaning.specs.Syntax.{Expression, number}
use Rattle.step_meaning.specs.AffineExpressions.{FunctionFits, less, strictly_less}
use Rattle.step_meaning.specs.Countdown.{form_of}
use Rattle.step_meaning.specs.Turns.{DifferencesFit, FitsAsComparison}
use Rattle.step_meaning.proofs.FunctionLaws.{IsKnown, fits_form, form_fits, form_of_difference}

module _ (l r : Expression) (f g : Affine) (left : f ≡ form_of l) (right : g ≡ form_of r) where
  pub is_difference : difference_of f g ≡ form_of (less l r)
  is_difference = ap (λ t. difference_of t g) left ∙ ap (difference_of (form_of l)) right ∙ form_of_difference l r

  pub is_strict : difference_of (difference_of f g) (constant_of (pos 1)) ≡ form_of (strictly_less l r)
  is_strict = ap (λ t. difference_of t (constant_of (pos 1))) is_difference ∙ form_of_difference (less l r) (number (pos 1))

  pub both_fit : DifferencesFit f g → FunctionFits (less l r) × FunctionFits (strictly_less l r)
  both_fit fit = (fits_form (less l r) (subst NumbersFit is_difference fit.0), fits_form (strictly_less l r) (subst NumbersFit is_strict fit.1))

  pub fit_both : FunctionFits (less l r) → FunctionFits (strictly_less l r) → DifferencesFit f g
  fit_both own strict = (subst NumbersFit (sym is_difference) (form_fits (less l r) own), subst NumbersFit (sym is_strict) (form_fits (strictly_less l r) strict))

pub fits_by_differences : (l r : Expression) (f g : Affine) → IsKnown l → IsKnown r → f ≡ form_of l → g ≡ form_of r → DifferencesFit f g → DifferencesFit g f → FitsAsComparison l r
fits_by_differences l r f g known other left right own opposite =
    let first = both_fit l r f g left right own in
    let second = both_fit r l g f right left opposite in (
      known.0,
      other.0,
      record {
        left = known.1;
        right = other.1;
        difference = first.0;
        opposite = second.0;
        strict_difference = first.1;
        strict_opposite = second.1;
      },
    )

pub own_fit : (l r : Expression) (f g : Affine) → f ≡ form_of l → g ≡ form_of r → FitsAsComparison l r → DifferencesFit f g
own_fit l r f g left right fits = fit_both l r f g left right fits.2.difference fits.2.strict_difference

pub opposite_fit : (l r : Expression) (f g : Affine) → f ≡ form_of l → g ≡ form_of r → FitsAsComparison l r → DifferencesFit g f
opposite_fit l r f g left right fits = fit_both r l g f right left fits.2.opposite fits.2.strict_opposite

pub same_differences : (d e : Differences) → d.own ≡ e.own → d.opposite ≡ e.opposite → d.strict ≡ e.strict → d.strict_opposite ≡ e.strict_opposite → d ≡ e
same_differences d e own opposite strict strict_opposite =
    ap {B = Differences} (λ t. record { own = t; opposite = d.opposite; strict = d.strict; strict_opposite = d.strict_opposite }) own
    ∙ ap {B = Differences} (λ t. record { own = e.own; opposite = t; strict = d.strict; strict_opposite = d.strict_opposite }) opposite
    ∙ ap {B = Differences} (λ t. record { own = e.own; opposite = e.opposite; strict = t; strict_opposite = d.strict_opposite }) strict
    ∙ ap {B = Differences} (λ t. record { own = e.own; opposite = e.opposite; strict = e.strict; strict_opposite = t }) strict_opposite
