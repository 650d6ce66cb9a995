use Rattle.std.proofs.Common.{◌≡◌, ℕ, ◌<◌, ◌≤◌, slice_index_or}
use Rattle.tree_support.specs.declared.dropped.Dropped.{Dropped}
use Rattle.tree_check.specs.Rounds.{LeadsElsewhere, setting_on}
use Rattle.tree_check.proofs.rounds.Premises.leading.Given as goal

abbrev pub invariant-loop-number : goal.invariant-loop-number
invariant-loop-number g l =
    (l.count ≤ l.number)
    × (l.count ≡ 0 → (number : ℕ) (d : Dropped) → l.from ≤ number → number < l.number
    → LeadsElsewhere (setting_on g.D.NumDomain l.self) l.label (slice_index_or l.drops number d).label)
