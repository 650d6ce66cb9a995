use Rattle.std.proofs.Common.{◌+◌, ◌-◌, length, map}
use Rattle.decision_tree.specs.Plans.{plan_of}
use Rattle.tree_support.specs.Setting.{trees_in}
use Rattle.tree_check.specs.Rounds.{Advances, defined_in, setting_on}
use Rattle.tree_check.specs.Telling.{IsTold}
use Rattle.tree_check.proofs.rounds.Premises.tell_each.Given as goal

abbrev pub invariant-loop-number : goal.invariant-loop-number
invariant-loop-number g l =
    Advances g.R.Rank (setting_on g.D.NumDomain l.self) (map plan_of l.initial.trees) l.initial.drops.items (map plan_of l.trees) l.drops.items
    × IsTold g.R.Rank (setting_on g.D.NumDomain l.self) (trees_in (map plan_of l.trees)) l.drops.items l.number l.label

abbrev pub decreases-loop-number : goal.decreases-loop-number
decreases-loop-number g l = (defined_in (map plan_of l.trees) + length l.drops.items) - l.number
