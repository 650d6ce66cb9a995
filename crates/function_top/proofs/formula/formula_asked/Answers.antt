use Rattle.std.proofs.Common.{sym, subst, refl, option_map, arith}
use Rattle.ctl_formula.specs.Formulas.{af_exit}
use Rattle.ctl_formula.specs.Mirror.{ctl}
use Rattle.function_top.specs.Asking.{IsNormalAsked}
use Rattle.function_top.proofs.formula.formula_asked.Goals as goal

pub returns-in_ok-af_exit-in-None-clause-formula : goal.returns-in_ok-af_exit-in-None-clause-formula
returns-in_ok-af_exit-in-None-clause-formula c =
    subst (λ text. IsNormalAsked c.args.names.now (option_map (λ bytes. bytes.now) text) (ctl c.in_ok-af_exit-in-None.field-0)) (sym c.in-None.is)
    (record { meant = af_exit; is = refl; normal_form = c.in_ok-af_exit-in-None.ensures; limited = omega arith })
