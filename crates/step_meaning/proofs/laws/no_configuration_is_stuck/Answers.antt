use Rattle.step_meaning.proofs.Progress.{unstuck_at}
use Rattle.step_meaning.proofs.laws.no_configuration_is_stuck.Goals as goal

pub returns : goal.returns
returns c = unstuck_at
