use Rattle.std.proofs.lemmas.Grind.{common_steps, elements}
use Rattle.std.proofs.Common.{arith}
use Rattle.linear_solve.proofs.point.Point.moved.Goals as goal

pub returns-in_err-scaled-clause-exact : goal.returns-in_err-scaled-clause-exact
returns-in_err-scaled-clause-exact c = grind (arith, common_steps)

pub returns-in_err-scaled-clause-unfit : goal.returns-in_err-scaled-clause-unfit
returns-in_err-scaled-clause-unfit c = grind (arith, elements)

pub returns-in_err-scaled-clause-wide : goal.returns-in_err-scaled-clause-wide
returns-in_err-scaled-clause-wide c = grind (arith, common_steps)
