use Rattle.demo_program.proofs.Counting.{demo_counts_down}
use Rattle.demo_program.proofs.laws.demo_programs_count_down.Goals as goal

pub returns : goal.returns
returns c = demo_counts_down
