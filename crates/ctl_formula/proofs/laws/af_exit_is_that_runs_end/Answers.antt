use Rattle.ctl_formula.proofs.Ends.{af_exit_ends}
use Rattle.ctl_formula.proofs.laws.af_exit_is_that_runs_end.Goals as goal

pub returns : goal.returns
returns c = af_exit_ends
