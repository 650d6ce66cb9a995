use Rattle.control_flow.proofs.Onward.{labels_lead_on}
use Rattle.control_flow.proofs.laws.edges_lead_onward.Goals as goal

pub returns : goal.returns
returns c = labels_lead_on
