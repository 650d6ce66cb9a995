-- Laws of normal forms.
use Rattle.std.specs.Prelude.{ℕ}
use Rattle.ctl_formula.specs.Formulas.{Ctl, normal}
use Rattle.normal_form.specs.Operators.{HasNoNegation}
use Rattle.normal_form.specs.Rows.{RowsAreOver}

-- in a normal form a negation stands nowhere
abbrev pub NormalFormsHaveNoNegation : Type 0
NormalFormsHaveNoNegation = (f : Ctl) → HasNoNegation (normal f)

-- a normal form speaks of no variable of which its formula doesn't
abbrev pub NormalFormsKeepVariables : Type 0
NormalFormsKeepVariables = (vars : ℕ) (f : Ctl) → RowsAreOver vars f → RowsAreOver vars (normal f)
