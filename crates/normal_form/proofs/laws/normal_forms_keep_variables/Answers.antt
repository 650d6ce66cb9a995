use Rattle.normal_form.proofs.SameVariables.{normal_over}
use Rattle.normal_form.proofs.laws.normal_forms_keep_variables.Goals as goal

pub returns : goal.returns
returns c = normal_over
