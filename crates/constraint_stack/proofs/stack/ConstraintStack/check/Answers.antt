use Rattle.constraint_stack.proofs.Holding.{nowhere_held}
use Rattle.constraint_stack.proofs.stack.ConstraintStack.check.Goals as goal

pub returns-in_default : goal.returns-in_default
returns-in_default c items held =
    nowhere_held items c.args.self.now.rows c.args.self.now.wide held (rw c.in_default.is at c.in_ok-reason.ensures)
