use Rattle.linear_cons.proofs.RowLaws.{complement_met}
use Rattle.linear_cons.proofs.laws.complements_split_the_stores.Goals as goal

pub returns : goal.returns
returns c = complement_met
