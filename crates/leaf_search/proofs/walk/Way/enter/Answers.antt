use Rattle.std.proofs.lemmas.Grind.{common_steps}
use Rattle.std.proofs.Common.{sym, subst, arith}
use Rattle.constraint_stack.specs.Stacks.{Held, IsMetNowhere, all_asked, asked}
use Rattle.tree_support.specs.Systems.{moved_by}
use Rattle.leaf_search.specs.Walks.{side_of}
use Rattle.constraint_stack.proofs.Holding.{held_more, nowhere_added}
use Rattle.leaf_search.proofs.Walking.{asked_more}
use Rattle.leaf_search.proofs.walk.Way.enter.Goals as goal

pub returns-clause-held : goal.returns-clause-held
returns-clause-held g c is asks held =
    let a = moved_by c.args.self.now.sets (side_of c.deref-row.result.now.affine c.args.holds) in
    rw (← c.deref-row.ensures) (subst (λ items. Held items c.add.new.self.rows c.add.new.self.wide) (sym (asked_more asks a))
    (held_more (all_asked asks) c.args.stack.now.rows c.args.stack.now.wide (asked a) c.moved_side-formed.result c.add.new.self.rows c.add.new.self.wide held c.moved_side-formed.ensures (rw is at c.in_ok-added-2.ensures)))

pub returns-clause-nowhere : goal.returns-clause-nowhere
returns-clause-nowhere g c is asks held =
    let a = moved_by c.args.self.now.sets (side_of c.deref-row.result.now.affine c.args.holds) in
    rw (← c.deref-row.ensures) (subst IsMetNowhere (sym (asked_more asks a))
    (nowhere_added (all_asked asks) c.args.stack.now.rows c.args.stack.now.wide (asked a) c.moved_side-formed.result c.add.new.self.rows c.add.new.self.wide held c.moved_side-formed.ensures (rw is at c.in_ok-added-2.ensures)))

pub returns-clause-longer : goal.returns-clause-longer
returns-clause-longer g c = grind (arith, common_steps)
