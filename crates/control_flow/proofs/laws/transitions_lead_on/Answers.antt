use Rattle.control_flow.proofs.LabelLaws.{edges_lead_to_labels}
use Rattle.control_flow.proofs.Onward.{labels_lead_on}
use Rattle.control_flow.proofs.Doing.{are_onward}
use Rattle.control_flow.proofs.laws.transitions_lead_on.Goals as goal

pub returns : goal.returns
returns c = λ body told transitions same are. are_onward body told transitions are same (edges_lead_to_labels body) (labels_lead_on body)
