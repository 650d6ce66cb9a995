use Rattle.linear_cons.proofs.RowKinds.{row_kind_is, row_kind_unique}
use Rattle.linear_cons.proofs.laws.constraints_have_one_kind.Goals as goal

pub returns : goal.returns
returns c = record { is = row_kind_is; one = row_kind_unique }
