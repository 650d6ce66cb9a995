use Rattle.step_meaning.specs.Syntax.{expression}
use Rattle.control_flow.proofs.Comparing.{comparison_fits, on_any, other_fits, own_fits}
use Rattle.control_flow.proofs.fitting.check_comparison.Goals as goal

pub returns-clause-fits : goal.returns-clause-fits
returns-clause-fits c =
    let left = c.in_ok-first.ensures.exact in
    let right = c.in_ok-second.ensures.exact in
    comparison_fits (expression c.args.left.now) (expression c.args.right.now) _ _ left.1 right.1 left.0 right.0
    c.in_ok-check_difference.ensures.difference c.in_ok-check_difference.ensures.strict c.in_ok-check_difference-2.ensures.difference c.in_ok-check_difference-2.ensures.strict

pub returns-in_err-check_difference-clause-wide : goal.returns-in_err-check_difference-clause-wide
returns-in_err-check_difference-clause-wide c = on_any c.from_residual-in_err-check_difference.result (λ fits.
    let both = own_fits (expression c.args.left.now) (expression c.args.right.now) _ _ c.in_ok-first.ensures.exact.1 c.in_ok-second.ensures.exact.1 fits in
    c.in_err-check_difference.ensures.wide both.0 both.1)

pub returns-in_err-check_difference-2-clause-wide : goal.returns-in_err-check_difference-2-clause-wide
returns-in_err-check_difference-2-clause-wide c = on_any c.from_residual-in_err-check_difference-2.result (λ fits.
    let both = other_fits (expression c.args.left.now) (expression c.args.right.now) _ _ c.in_ok-first.ensures.exact.1 c.in_ok-second.ensures.exact.1 fits in
    c.in_err-check_difference-2.ensures.wide both.0 both.1)
