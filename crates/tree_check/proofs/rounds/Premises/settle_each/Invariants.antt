use Rattle.std.proofs.Common.{◌≡◌, ℕ, ◌≤◌, map}
use Rattle.decision_tree.specs.Plans.{plan_of}
use Rattle.tree_support.specs.Setting.{trees_in}
use Rattle.tree_check.specs.Rounds.{Advances, IsSupportedAt, setting_on}
use Rattle.tree_check.specs.Telling.{AreTold}
use Rattle.tree_check.proofs.rounds.Premises.settle_each.Given as goal

abbrev pub invariant-loop-label : goal.invariant-loop-label
invariant-loop-label g l =
    Advances g.R.Rank (setting_on g.D.NumDomain l.self) (map plan_of l.initial.trees) l.initial.drops.items (map plan_of l.trees) l.drops.items
    × (l.drops.items ≡ l.initial.drops.items → (label : ℕ) → l.label ≤ label
    → IsSupportedAt g.R.Rank (setting_on g.D.NumDomain l.self) (trees_in (map plan_of l.trees)) label)
    × AreTold g.R.Rank (setting_on g.D.NumDomain l.self) (trees_in (map plan_of l.trees)) l.drops.items l.told
