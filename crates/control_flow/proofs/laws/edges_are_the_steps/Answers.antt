use Rattle.control_flow.proofs.Steps.{edges_are_steps, entry_is_start}
use Rattle.control_flow.proofs.laws.edges_are_the_steps.Goals as goal

pub returns : goal.returns
returns c = record { steps = edges_are_steps; entry = entry_is_start }
