use Rattle.linear_solve.proofs.Nothing.{negative_form}
use Rattle.linear_solve.proofs.projection.negative.Goals as goal

pub returns-clause-form : goal.returns-clause-form
returns-clause-form c = negative_form c.constant-function.result c.args.place c.constant-function.ensures c.requires
