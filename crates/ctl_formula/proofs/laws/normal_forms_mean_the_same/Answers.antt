use Rattle.ctl_formula.proofs.Duality.{same}
use Rattle.ctl_formula.proofs.laws.normal_forms_mean_the_same.Goals as goal

pub returns : goal.returns
returns c = same
