use Rattle.std.proofs.Common.{◌≡◌, ◌-◌, All, length}
use Rattle.part_families.specs.Fitting.{IsFit}
use Rattle.split_rounds.proofs.refining.rounds.Given as goal

-- the trees may be checked and printed, and there is one for each label
abbrev pub invariant-loop-rounds : goal.invariant-loop-rounds
invariant-loop-rounds g l = All (IsFit (length l.premises.graph.now.names)) l.trees × (length l.trees ≡ l.premises.labels)

abbrev pub decreases-loop-rounds : goal.decreases-loop-rounds
decreases-loop-rounds g l = 8 - l.rounds
