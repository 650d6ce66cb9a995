use Rattle.std.proofs.Common.{arith}
use Rattle.std.proofs.lemmas.Grind.{common_steps}
use Rattle.source_parse.proofs.front.of_names.Goals as goal

pub returns-in-Unknown-clause-inside : goal.returns-in-Unknown-clause-inside
returns-in-Unknown-clause-inside c = grind (arith, common_steps)

pub returns-in-Twice-clause-inside : goal.returns-in-Twice-clause-inside
returns-in-Twice-clause-inside c = grind (arith, common_steps)

pub returns-in-Mixed-clause-inside : goal.returns-in-Mixed-clause-inside
returns-in-Mixed-clause-inside c = grind (arith, common_steps)

pub returns-in-BadRange-clause-inside : goal.returns-in-BadRange-clause-inside
returns-in-BadRange-clause-inside c = grind (arith, common_steps)

pub returns-in-Variables-clause-inside : goal.returns-in-Variables-clause-inside
returns-in-Variables-clause-inside c = grind (arith, common_steps)

pub returns-in-Outside-clause-inside : goal.returns-in-Outside-clause-inside
returns-in-Outside-clause-inside c = grind (arith, common_steps)

pub returns-in-ZeroDivisor-clause-inside : goal.returns-in-ZeroDivisor-clause-inside
returns-in-ZeroDivisor-clause-inside c = grind (arith, common_steps)

pub returns-in-Placed-clause-inside : goal.returns-in-Placed-clause-inside
returns-in-Placed-clause-inside c = grind (arith, common_steps)

pub returns-in-Arguments-clause-inside : goal.returns-in-Arguments-clause-inside
returns-in-Arguments-clause-inside c = grind (arith, common_steps)
