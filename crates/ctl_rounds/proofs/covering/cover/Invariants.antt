use Rattle.std.proofs.Common.{None, option_map, take}
use Rattle.step_meaning.specs.Syntax.{statements}
use Rattle.decision_tree.specs.Plans.{plan_of}
use Rattle.ctl_rounds.specs.Covers.{Covers, at_entry}
use Rattle.ctl_rounds.proofs.covering.cover.Given as goal

abbrev pub invariant-loop-family : goal.invariant-loop-family
invariant-loop-family l =
    Covers None (at_entry (statements l.graph.body) (take l.family-index l.family-items)) (option_map plan_of l.cover)
