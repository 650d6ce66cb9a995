use Rattle.normal_form.proofs.NoNegation.{none_in_normal}
use Rattle.normal_form.proofs.laws.normal_forms_have_no_negation.Goals as goal

pub returns : goal.returns
returns c = none_in_normal
