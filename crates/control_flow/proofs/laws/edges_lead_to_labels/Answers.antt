use Rattle.control_flow.proofs.LabelLaws.{count_of_labels, edges_lead_to_labels, entry_is_a_label}
use Rattle.control_flow.proofs.laws.edges_lead_to_labels.Goals as goal

pub returns : goal.returns
returns c = record { edges = edges_lead_to_labels; entry = entry_is_a_label; count = count_of_labels }
