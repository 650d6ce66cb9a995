use Rattle.std.proofs.Common.{sym, subst}
use Rattle.ctl_formula.specs.Mirror.{ctl}
use Rattle.normal_form.specs.Rows.{RowsAreOver}
use Rattle.formula_parse.proofs.normalising.normal.Goals as goal

pub returns-in-Some-clause-variables : goal.returns-in-Some-clause-variables
returns-in-Some-clause-variables c =
    let made = rw c.in-Some.is at c.in_ok-found.ensures in
    λ vars own. subst (RowsAreOver vars) (sym made.1) (c.normal_forms_keep_variables.ensures vars (ctl c.args.formula.now) own)
