use Rattle.linear_cons.proofs.RowLaws.{row_same}
use Rattle.linear_cons.proofs.laws.rows_are_their_functions.Goals as goal

pub returns : goal.returns
returns c = row_same
