use Rattle.linear_solve.proofs.Nothing.{less_one_form, less_one_occurs}
use Rattle.linear_solve.proofs.projection.less_one.Goals as goal

pub returns-clause-form : goal.returns-clause-form
returns-clause-form c = less_one_form c.var-function.result c.args.place c.var-function.ensures c.requires

pub returns-clause-occurs : goal.returns-clause-occurs
returns-clause-occurs c = less_one_occurs c.var-function.result c.args.place c.var-function.ensures c.requires
