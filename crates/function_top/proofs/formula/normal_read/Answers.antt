use Rattle.std.proofs.Common.{length}
use Rattle.function_top.proofs.formula.normal_read.Goals as goal

pub returns-clause-variables : goal.returns-clause-variables
returns-clause-variables c = c.in_ok-made.ensures.variables (length c.args.names.now) c.in_ok-formula.ensures.variables
