use Rattle.function_top.proofs.Once.{at_most_one}
use Rattle.function_top.proofs.laws.each_input_meets_at_most_one_exact_line.Goals as goal

pub returns : goal.returns
returns c = at_most_one
