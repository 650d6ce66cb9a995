use Rattle.constraint_stack.proofs.Choosing.{chosen_one, one_nowhere}
use Rattle.constraint_stack.proofs.claim.try_one.Goals as goal

pub returns-then-not-branch-clause-tried : goal.returns-then-not-branch-clause-tried
returns-then-not-branch-clause-tried c items held =
    one_nowhere items c.args.kind.now c.args.stack.now.rows c.add.new.self.rows c.args.stack.now.wide c.add.new.self.wide held
    (rw c.if-not-branch.true at c.in_ok-add.ensures)

pub returns-clause-tried : goal.returns-clause-tried
returns-clause-tried c items held =
    c.in_ok-refuted.ensures _
    (chosen_one items c.args.kind.now c.args.stack.now.rows c.add.new.self.rows c.args.stack.now.wide c.add.new.self.wide held
    (rw c.if-not-branch.false at c.in_ok-add.ensures))
