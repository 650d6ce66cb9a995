-- What an affine test spreads to, whose numbers fit, is the same over all bounds.
use Rattle.std.proofs.Common.{◌≡◌, Bool, true, false, not, refl, sym, ap, ◌∙◌}
use Rattle.step_meaning.specs.AffineExpressions.{ComparisonFits, ExpressionFits, IsAffine, IsAffineTest, TestFits}
use Rattle.step_meaning.specs.declared.expression.Op2.{Op2}
use Rattle.step_meaning.specs.declared.expression.Op2.TheVariants.{Add, Sub, Mul, Less, LessEqual, Greater, GreaterEqual, Equal, NotEqual, And, Or}
use Rattle.step_meaning.specs.Syntax.{Expression, free, range, number, variable, truth, negative, negation, pair, divided}
use Rattle.linear_cons.specs.declared.bounds.Bounds.{Bounds}
use Rattle.linear_cons.specs.declared.bounds.Linear.{Linear}
use Rattle.linear_forms.specs.Linearising.{linear_of}
use Rattle.linear_forms.specs.Spreading.{all_rows_of, claims, comparison_for, spread_by, spread_of}
use Rattle.linear_forms.proofs.Exactness.{linear_exact}

module _ (bounds other : Bounds) where
  linear_same : (e : Expression) → IsAffine e → ExpressionFits e → linear_of bounds e ≡ linear_of other e
  linear_same e affine fit = linear_exact bounds e affine fit ∙ sym (linear_exact other e affine fit)

  compared_same : (op : Op2) (l r : Expression) (t : Bool) → IsAffine l × IsAffine r → ComparisonFits l r
      → all_rows_of (claims (comparison_for t op) (linear_of bounds l) (linear_of bounds r)) ≡ all_rows_of (claims (comparison_for t op) (linear_of other l) (linear_of other r))
  compared_same op l r t affine fits =
      ap (λ (x : Linear). all_rows_of (claims (comparison_for t op) x (linear_of bounds r))) (linear_same l affine.0 fits.left)
      ∙ ap (λ (y : Linear). all_rows_of (claims (comparison_for t op) (linear_of other l) y)) (linear_same r affine.1 fits.right)

  pub spread_same : (c : Expression) (t : Bool) → IsAffineTest c → TestFits c → spread_of bounds c t ≡ spread_of other c t
  spread_same (truth true) t affine fits = refl
  spread_same (truth false) t affine fits = refl
  spread_same (negation c) t affine fits = spread_same c (not t) affine fits
  spread_same (pair And l r) t affine fits = joined And l r t (spread_same l t affine.0 fits.0) (spread_same r t affine.1 fits.1)
    where
      joined : (op : Op2) (l r : Expression) (t : Bool) → spread_of bounds l t ≡ spread_of other l t → spread_of bounds r t ≡ spread_of other r t
          → spread_by And t (spread_of bounds l t) (spread_of bounds r t) (all_rows_of (claims (comparison_for t And) (linear_of bounds l) (linear_of bounds r)))
          ≡ spread_by And t (spread_of other l t) (spread_of other r t) (all_rows_of (claims (comparison_for t And) (linear_of other l) (linear_of other r)))
      joined op l r true one two = rw (one, two) refl
      joined op l r false one two = rw (one, two) refl
  spread_same (pair Or l r) t affine fits = joined Or l r t (spread_same l t affine.0 fits.0) (spread_same r t affine.1 fits.1)
    where
      joined : (op : Op2) (l r : Expression) (t : Bool) → spread_of bounds l t ≡ spread_of other l t → spread_of bounds r t ≡ spread_of other r t
          → spread_by Or t (spread_of bounds l t) (spread_of bounds r t) (all_rows_of (claims (comparison_for t Or) (linear_of bounds l) (linear_of bounds r)))
          ≡ spread_by Or t (spread_of other l t) (spread_of other r t) (all_rows_of (claims (comparison_for t Or) (linear_of other l) (linear_of other r)))
      joined op l r true one two = rw (one, two) refl
      joined op l r false one two = rw (one, two) refl
  spread_same (pair Add l r) t affine fits = compared_same Add l r t affine fits
  spread_same (pair Sub l r) t affine fits = compared_same Sub l r t affine fits
  spread_same (pair Mul l r) t affine fits = compared_same Mul l r t affine fits
  spread_same (pair Less l r) t affine fits = compared_same Less l r t affine fits
  spread_same (pair LessEqual l r) t affine fits = compared_same LessEqual l r t affine fits
  spread_same (pair Greater l r) t affine fits = compared_same Greater l r t affine fits
  spread_same (pair GreaterEqual l r) t affine fits = compared_same GreaterEqual l r t affine fits
  spread_same (pair Equal l r) t affine fits = compared_same Equal l r t affine fits
  spread_same (pair NotEqual l r) t affine fits = compared_same NotEqual l r t affine fits
  spread_same (number z) t affine fits = absurd affine
  spread_same (variable x) t affine fits = absurd affine
  spread_same free t affine fits = absurd affine
  spread_same (range lo hi) t affine fits = absurd affine
  spread_same (negative e) t affine fits = absurd affine
  spread_same (divided division e b) t affine fits = absurd affine
