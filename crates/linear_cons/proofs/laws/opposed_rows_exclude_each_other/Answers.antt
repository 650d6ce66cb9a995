use Rattle.linear_cons.proofs.RowLaws.{opposed_never}
use Rattle.linear_cons.proofs.laws.opposed_rows_exclude_each_other.Goals as goal

pub returns : goal.returns
returns c = opposed_never
