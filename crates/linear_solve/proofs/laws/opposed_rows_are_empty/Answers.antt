use Rattle.linear_solve.proofs.Deciding.{opposed_empty}
use Rattle.linear_solve.proofs.laws.opposed_rows_are_empty.Goals as goal

pub returns : goal.returns
returns c = opposed_empty
