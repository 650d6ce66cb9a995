-- A comparison of affine expressions is that of their functions, whatever the bounds are.
use Rattle.std.proofs.Common.{◌≡◌, Bool, refl, ap, ◌∙◌}
use Rattle.step_meaning.specs.declared.expression.Op2.{Op2}
use Rattle.step_meaning.specs.declared.expression.Op2.TheVariants.{Less, LessEqual, Greater, GreaterEqual}
use Rattle.step_meaning.specs.AffineExpressions.{ComparisonFits, IsAffine}
use Rattle.step_meaning.specs.Syntax.{Expression, pair}
use Rattle.linear_cons.specs.declared.bounds.Bounds.{Bounds}
use Rattle.linear_cons.specs.declared.bounds.Linear.{Linear}
use Rattle.linear_cons.specs.Ends.{exactly}
use Rattle.linear_forms.specs.Linearising.{linear_of}
use Rattle.step_meaning.specs.Countdown.{form_of}
use Rattle.linear_forms.specs.Spreading.{all_rows_of, claims, comparison_for, spread_of}
use Rattle.linear_forms.proofs.Exactness.{linear_exact}
use Rattle.forward_inv.specs.Behind.{IsInequality, compared}

-- such a comparison spreads by its sides alone
by_sides : (bounds : Bounds) (op : Op2) (l r : Expression) (outcome : Bool) → IsInequality op
    → spread_of bounds (pair op l r) outcome ≡ all_rows_of (claims (comparison_for outcome op) (linear_of bounds l) (linear_of bounds r))
by_sides bounds Less l r outcome is = refl
by_sides bounds LessEqual l r outcome is = refl
by_sides bounds Greater l r outcome is = refl
by_sides bounds GreaterEqual l r outcome is = refl
by_sides bounds other l r outcome is = absurd is

pub compared_exactly : (bounds : Bounds) (op : Op2) (l r : Expression) (outcome : Bool) → IsInequality op → IsAffine l → IsAffine r
    → ComparisonFits l r → spread_of bounds (pair op l r) outcome ≡ compared op (form_of l) (form_of r) outcome
compared_exactly bounds op l r outcome is left right fit =
    by_sides bounds op l r outcome is
    ∙ ap (λ (x : Linear). all_rows_of (claims (comparison_for outcome op) x (linear_of bounds r))) (linear_exact bounds l left fit.left)
    ∙ ap (λ (y : Linear). all_rows_of (claims (comparison_for outcome op) (exactly (form_of l)) y)) (linear_exact bounds r right fit.right)
