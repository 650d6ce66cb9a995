use Rattle.std.proofs.Common.{◌≡◌, length}
use Rattle.tree_check.specs.Rounds.{setting_on}
use Rattle.tree_check.specs.Telling.{AreToldBeside}
use Rattle.tree_check.proofs.rounds.Premises.told_beside.Given as goal

abbrev pub invariant-loop-label : goal.invariant-loop-label
invariant-loop-label g l = (length l.told.items ≡ l.label) × AreToldBeside (setting_on g.D.NumDomain l.self) l.same l.number l.told.items
