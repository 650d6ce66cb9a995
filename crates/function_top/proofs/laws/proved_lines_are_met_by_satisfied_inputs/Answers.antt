use Rattle.function_top.proofs.ProvedLines.{met_by_satisfied}
use Rattle.function_top.proofs.laws.proved_lines_are_met_by_satisfied_inputs.Goals as goal

pub returns : goal.returns
returns c task subject found report finds shows loopless within input is_input =
    met_by_satisfied task subject found report finds shows loopless within input is_input
