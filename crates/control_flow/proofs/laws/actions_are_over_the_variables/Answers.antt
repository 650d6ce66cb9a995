use Rattle.control_flow.proofs.LabelLaws.{labels_are_sorted}
use Rattle.control_flow.proofs.laws.actions_are_over_the_variables.Goals as goal

pub returns : goal.returns
returns c = labels_are_sorted
