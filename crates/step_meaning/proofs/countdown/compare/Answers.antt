use Rattle.std.proofs.Common.{ap, ◌∙◌}
use Rattle.linear_cons.specs.declared.affine.Affine.{Affine}
use Rattle.step_meaning.specs.Syntax.{expression}
use Rattle.step_meaning.specs.Turns.{differences_of}
use Rattle.step_meaning.proofs.Differences.{fits_by_differences, is_difference, is_strict, opposite_fit, own_fit, same_differences}
use Rattle.step_meaning.proofs.Finding.{lacks}
use Rattle.step_meaning.proofs.countdown.compare.Goals as goal

pub returns : goal.returns
returns c =
    let l = expression c.args.left.now in
    let r = expression c.args.right.now in
    let left = c.in_ok-first.ensures in
    let right = c.in_ok-second.ensures in
    let own = c.in_ok-own.ensures in
    let opposite = c.in_ok-opposite.ensures in
    let first = λ (both : Affine × Affine). both.0 in
    let second = λ (both : Affine × Affine). both.1 in (
      fits_by_differences l r _ _ left.0 right.0 left.1 right.1 own.0 opposite.0,
      same_differences _ (differences_of l r)
          (ap first own.1 ∙ is_difference l r _ _ left.1 right.1)
          (ap first opposite.1 ∙ is_difference r l _ _ right.1 left.1)
          (ap second own.1 ∙ is_strict l r _ _ left.1 right.1)
          (ap second opposite.1 ∙ is_strict r l _ _ right.1 left.1),
    )

pub returns-in_err-own : goal.returns-in_err-own
returns-in_err-own c =
    lacks _ _ _ c.from_residual-in_err-own.ensures
    (λ fits. c.in_err-own.ensures (own_fit (expression c.args.left.now) (expression c.args.right.now) _ _ c.in_ok-first.ensures.1 c.in_ok-second.ensures.1 fits))

pub returns-in_err-opposite : goal.returns-in_err-opposite
returns-in_err-opposite c =
    lacks _ _ _ c.from_residual-in_err-opposite.ensures
    (λ fits. c.in_err-opposite.ensures (opposite_fit (expression c.args.left.now) (expression c.args.right.now) _ _ c.in_ok-first.ensures.1 c.in_ok-second.ensures.1 fits))
