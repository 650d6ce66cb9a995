use Rattle.std.specs.Prelude.{length}
use Rattle.formula_cases.proofs.limits.normalised.Goals as goal

pub print-requires-clause-over : goal.print-requires-clause-over
print-requires-clause-over c = c.in_ok-normal.ensures.variables (length c.of-names.result) c.in_ok-formula.ensures.variables
