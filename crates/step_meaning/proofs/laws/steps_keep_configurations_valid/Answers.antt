use Rattle.step_meaning.proofs.Progress.{step_stays}
use Rattle.step_meaning.proofs.Stores.{step_keeps}
use Rattle.step_meaning.proofs.laws.steps_keep_configurations_valid.Goals as goal

pub returns-clause-statements : goal.returns-clause-statements
returns-clause-statements c = step_stays

pub returns-clause-stores : goal.returns-clause-stores
returns-clause-stores c = step_keeps
