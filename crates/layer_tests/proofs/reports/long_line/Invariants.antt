use Rattle.decision_tree.specs.Plans.{plan_of}
use Rattle.report_text.specs.Leaves.{HasConstantRanks}
use Rattle.decision_tree.specs.Extent.{ComplementsFit}
use Rattle.layer_tests.proofs.reports.long_line.Given as goal

abbrev pub invariant-loop : goal.invariant-loop
invariant-loop l = ComplementsFit (plan_of l.tree) × HasConstantRanks (plan_of l.tree)
