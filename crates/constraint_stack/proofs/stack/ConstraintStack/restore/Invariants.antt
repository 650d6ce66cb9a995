use Rattle.std.proofs.Common.{◌≡◌, length, take}
use Rattle.constraint_stack.proofs.stack.ConstraintStack.restore.Given as goal

abbrev pub invariant-loop-self : goal.invariant-loop-self
invariant-loop-self l = (take l.checkpoint.rows l.self.rows ≡ take l.checkpoint.rows l.initial.self.rows) × (l.self.wide ≡ l.initial.self.wide)

abbrev pub decreases-loop-self : goal.decreases-loop-self
decreases-loop-self l = length l.self.rows
