use Rattle.std.proofs.Common.{length}
use Rattle.step_meaning.specs.Syntax.{statements}
use Rattle.decision_tree.specs.Plans.{plan_of}
use Rattle.ordinal_rank.specs.Families.{BoundsEnds}
use Rattle.ordinal_rank.proofs.entry.with_pairs.Given as goal

-- the tree bounds ends so far
abbrev pub invariant-loop-parting : goal.invariant-loop-parting
invariant-loop-parting g l = BoundsEnds (length l.graph.names) (statements l.graph.body) (plan_of l.tree)
