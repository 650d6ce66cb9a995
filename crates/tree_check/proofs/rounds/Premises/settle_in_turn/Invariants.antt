use Rattle.std.proofs.Common.{◌≡◌, map}
use Rattle.decision_tree.specs.Plans.{plan_of}
use Rattle.tree_check.specs.Rounds.{Advances, defined_in, setting_on}
use Rattle.tree_check.proofs.rounds.Premises.settle_in_turn.Given as goal

abbrev pub invariant-loop-refuted : goal.invariant-loop-refuted
invariant-loop-refuted g l =
    Advances g.R.Rank (setting_on g.D.NumDomain l.self) (map plan_of l.initial.trees) l.initial.drops.items (map plan_of l.trees) l.drops.items
    × (l.drops.items ≡ l.initial.drops.items → l.first ≡ 0)

abbrev pub decreases-loop-refuted : goal.decreases-loop-refuted
decreases-loop-refuted g l = defined_in (map plan_of l.trees)
