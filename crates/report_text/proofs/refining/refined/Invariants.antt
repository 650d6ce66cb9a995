use Rattle.std.proofs.Common.{take}
use Rattle.decision_tree.specs.Plans.{plan_of}
use Rattle.report_text.specs.Ranked.{AreRefined}
use Rattle.report_text.proofs.refining.refined.Given as goal

-- so much stands for the lines so far
abbrev pub invariant-loop-line : goal.invariant-loop-line
invariant-loop-line l = AreRefined (plan_of l.ranked) (take l.line-index l.line-items) l.lines.items
