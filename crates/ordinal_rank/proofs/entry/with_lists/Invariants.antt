use Rattle.std.proofs.Common.{length}
use Rattle.step_meaning.specs.Syntax.{statements}
use Rattle.decision_tree.specs.Plans.{plan_of}
use Rattle.ordinal_rank.specs.Families.{BoundsEnds}
use Rattle.ordinal_rank.proofs.entry.with_lists.Given as goal

-- the tree bounds ends so far
abbrev pub invariant-loop-parts : goal.invariant-loop-parts
invariant-loop-parts g l = BoundsEnds (length l.graph.names) (statements l.graph.body) (plan_of l.tree)
