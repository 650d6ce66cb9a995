-- What a `Formula` is.
use Rattle.linear_cons.specs.declared.row.RowKind.{RowKind}
use Rattle.linear_cons.specs.declared.row.RowKind.TheVariants.{Always, Never, Row as Kept}
use Rattle.ctl_formula.specs.declared.formula.Formula.{Formula, Not', And', Or', Next', Until', Weak'}
use Rattle.ctl_formula.specs.declared.formula.Formula.TheVariants.{True, False, Exit, NotExit, Holds}
use Rattle.ctl_formula.specs.Formulas.{Ctl, truth, falsity, exit, not_exit, always, never, least, negation, both, either, next, until, weak}

abbrev pub ctl_of_kind : RowKind → Ctl
ctl_of_kind Always = always
ctl_of_kind Never = never
ctl_of_kind (Kept row) = least row.affine

-- What follows has no part in the headline.

abbrev pub ctl : Formula → Ctl
ctl True = truth
ctl False = falsity
ctl Exit = exit
ctl NotExit = not_exit
ctl (Holds kind) = ctl_of_kind kind
ctl (Not' p f) = negation (ctl f)
ctl (And' p f q g) = both (ctl f) (ctl g)
ctl (Or' p f q g) = either (ctl f) (ctl g)
ctl (Next' all p f) = next all (ctl f)
ctl (Until' all p f q g) = until all (ctl f) (ctl g)
ctl (Weak' all p f q g) = weak all (ctl f) (ctl g)
