-- What the walk's own values are.
use Rattle.std.specs.Prelude.{Option, None, Some}
use Rattle.step_meaning.specs.declared.expression.Expr.{Expr}
use Rattle.step_meaning.specs.declared.expression.Op2.{Op2}
use Rattle.step_meaning.specs.Syntax.{Expression, expression}
use Rattle.ctl_formula.specs.declared.formula.Formula.{Formula}
use Rattle.ctl_formula.specs.Formulas.{Ctl}
use Rattle.ctl_formula.specs.Mirror.{ctl}

abbrev pub terms_of : Option (Expr × Op2) → Option (Expression × Op2)
terms_of None = None
terms_of (Some before) = Some (expression before.0, before.1)

abbrev pub joined_of : Option Formula → Option Ctl
joined_of None = None
joined_of (Some f) = Some (ctl f)
