use Rattle.function_top.proofs.Once.{one_line}
use Rattle.function_top.proofs.laws.each_input_meets_one_line.Goals as goal

pub returns : goal.returns
returns c = one_line
