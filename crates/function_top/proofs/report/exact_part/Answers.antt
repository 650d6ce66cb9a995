use Rattle.std.proofs.Common.{subst}
use Rattle.decision_tree.specs.Plans.{plan_of}
use Rattle.function_top.specs.Printable.{IsExactPrintable}
use Rattle.function_top.proofs.ExactLines.{ranks_constant}
use Rattle.function_top.proofs.report.exact_part.Goals as goal

pub lines-requires-clause-constants : goal.lines-requires-clause-constants
lines-requires-clause-constants c = λ is. ranks_constant (plan_of c.in-Made.tree) (subst (IsExactPrintable c.requires.0) c.in-Made.is c.requires.1).1
