use Rattle.decision_tree.proofs.Lending.{as_many_written}
use Rattle.decision_tree.proofs.laws.a_list_is_what_is_left_in_its_slice.Goals as goal

pub returns : goal.returns
returns g c = as_many_written
