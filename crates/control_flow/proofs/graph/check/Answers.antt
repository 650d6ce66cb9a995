use Rattle.std.proofs.Common.{sym, ◌∙◌}
use Rattle.control_flow.proofs.Readers.{none_wide}
use Rattle.control_flow.proofs.graph.check.Goals as goal

pub returns-in-None-clause-conjunctions : goal.returns-in-None-clause-conjunctions
returns-in-None-clause-conjunctions c = none_wide _ (sym c.least_wide.ensures ∙ c.in-None.is)
