use Rattle.forward_inv.proofs.Comparing.{compared_exactly}
use Rattle.forward_inv.proofs.laws.comparisons_come_down_to_the_same_rows.Goals as goal

pub returns : goal.returns
returns c = compared_exactly
