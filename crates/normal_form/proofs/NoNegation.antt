-- In a normal form, and in that of a negation, a negation stands nowhere.
use Rattle.ctl_formula.specs.Formulas.{Ctl, truth, falsity, exit, not_exit, always, never, least, negation, both, either, next, until, weak, normal, opposite}
use Rattle.normal_form.specs.Operators.{HasNoNegation}

mutual
  pub none_in_normal : (f : Ctl) → HasNoNegation (normal f)
  none_in_normal truth = tt
  none_in_normal falsity = tt
  none_in_normal exit = tt
  none_in_normal not_exit = tt
  none_in_normal always = tt
  none_in_normal never = tt
  none_in_normal (least a) = tt
  none_in_normal (negation f) = none_in_opposite f
  none_in_normal (both f g) = (none_in_normal f, none_in_normal g)
  none_in_normal (either f g) = (none_in_normal f, none_in_normal g)
  none_in_normal (next all f) = none_in_normal f
  none_in_normal (until all f g) = (none_in_normal f, none_in_normal g)
  none_in_normal (weak all f g) = (none_in_normal f, none_in_normal g)

  none_in_opposite : (f : Ctl) → HasNoNegation (opposite f)
  none_in_opposite truth = tt
  none_in_opposite falsity = tt
  none_in_opposite exit = tt
  none_in_opposite not_exit = tt
  none_in_opposite always = tt
  none_in_opposite never = tt
  none_in_opposite (least a) = tt
  none_in_opposite (negation f) = none_in_normal f
  none_in_opposite (both f g) = (none_in_opposite f, none_in_opposite g)
  none_in_opposite (either f g) = (none_in_opposite f, none_in_opposite g)
  none_in_opposite (next all f) = none_in_opposite f
  none_in_opposite (until all f g) = (none_in_opposite g, (none_in_opposite f, none_in_opposite g))
  none_in_opposite (weak all f g) = (none_in_opposite g, (none_in_opposite f, none_in_opposite g))
