use Rattle.linear_forms.proofs.Dual.{spread_dual}
use Rattle.linear_forms.proofs.laws.spreadings_are_dual.Goals as goal

pub returns : goal.returns
returns c = spread_dual
