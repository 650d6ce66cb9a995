use Rattle.control_flow.proofs.Taken.{both_taken, value_taken}
use Rattle.control_flow.proofs.laws.choices_may_be_taken.Goals as goal

pub returns : goal.returns
returns c = record { branches = both_taken; values = value_taken }
