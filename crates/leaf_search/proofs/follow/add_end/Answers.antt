use Rattle.leaf_search.proofs.Following.{end_held, end_nowhere}
use Rattle.leaf_search.proofs.follow.add_end.Goals as goal

pub returns-in_ok-added-in-Some-clause-held : goal.returns-in_ok-added-in-Some-clause-held
returns-in_ok-added-in-Some-clause-held c is asks ends are held =
    end_held asks ends c.in-Some.formed c.args.stack.now.rows c.add.new.self.rows c.args.stack.now.wide c.add.new.self.wide (rw c.in-Some.is at are) held (rw is at c.in_ok-added-in-Some.ensures)

pub returns-in_ok-added-in-Some-clause-nowhere : goal.returns-in_ok-added-in-Some-clause-nowhere
returns-in_ok-added-in-Some-clause-nowhere c is asks ends are held =
    end_nowhere asks ends c.in-Some.formed c.args.stack.now.rows c.add.new.self.rows c.args.stack.now.wide c.add.new.self.wide (rw c.in-Some.is at are) held (rw is at c.in_ok-added-in-Some.ensures)
