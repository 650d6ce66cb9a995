use Rattle.std.proofs.Common.{◌≡◌, All, length, map}
use Rattle.decision_tree.specs.Plans.{plan_of}
use Rattle.ordinal_rank.specs.Families.{IsFit}
use Rattle.ordinal_rank.proofs.fitting.fitted.Given as goal

-- as many as labels so far, and each is fit
abbrev pub invariant-loop-label : goal.invariant-loop-label
invariant-loop-label l = All (IsFit (length l.names)) (map plan_of l.made.items) × (length l.made.items ≡ l.label)
