use Rattle.std.proofs.Common.{rules}
use Rattle.linear_cons.proofs.exact.Op.exact.Goals as goal

pub returns-in-Some-clause-value : goal.returns-in-Some-clause-value
returns-in-Some-clause-value c = search rules
