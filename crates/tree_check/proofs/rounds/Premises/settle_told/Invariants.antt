use Rattle.std.proofs.Common.{map}
use Rattle.decision_tree.specs.Plans.{plan_of}
use Rattle.tree_support.specs.Setting.{trees_in}
use Rattle.tree_check.specs.Rounds.{Advances, defined_in, setting_on}
use Rattle.tree_check.specs.Telling.{AreTold}
use Rattle.tree_check.proofs.rounds.Premises.settle_told.Given as goal

abbrev pub invariant-loop-drops : goal.invariant-loop-drops
invariant-loop-drops g l =
    Advances g.R.Rank (setting_on g.D.NumDomain l.self) (map plan_of l.initial.trees) l.initial.drops.items (map plan_of l.trees) l.drops.items
    × AreTold g.R.Rank (setting_on g.D.NumDomain l.self) (trees_in (map plan_of l.trees)) l.drops.items l.told

abbrev pub decreases-loop-drops : goal.decreases-loop-drops
decreases-loop-drops g l = defined_in (map plan_of l.trees)
