use Rattle.std.proofs.Common.{sym, ◌∙◌}
use Rattle.formula_syntax.proofs.Sums.{right_missing}
use Rattle.formula_syntax.proofs.sum.right.Goals as goal

pub returns-in-None-clause-refused : goal.returns-in-None-clause-refused
returns-in-None-clause-refused c = λ behind. right_missing _ behind _ _ (sym c.in-None.is ∙ c.comparison_of.ensures.class)
