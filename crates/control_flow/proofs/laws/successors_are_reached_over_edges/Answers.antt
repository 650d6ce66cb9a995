use Rattle.std.proofs.Common.{refl}
use Rattle.control_flow.proofs.LabelLaws.{only_end_is_final}
use Rattle.control_flow.proofs.Taken.{each_successor}
use Rattle.control_flow.proofs.laws.successors_are_reached_over_edges.Goals as goal

pub returns : goal.returns
returns c = record { each = each_successor; ended = only_end_is_final; last = λ body. refl }
