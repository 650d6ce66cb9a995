use Rattle.std.proofs.Common.{None}
use Rattle.decision_tree.specs.Plans.{plan_of}
use Rattle.leaf_search.specs.Operands.{families_of}
use Rattle.leaf_search.proofs.Leading.{leads_searched}
use Rattle.leaf_search.proofs.leaf.Stand.refute_first.Goals as goal

pub returns-in_ok-refuted-in-Some-clause-searched : goal.returns-in_ok-refuted-in-Some-clause-searched
returns-in_ok-refuted-in-Some-clause-searched g c asks held =
    let search = rw (c.here.ensures.edge, c.here.ensures.sets, c.here.ensures.limit) at c.in_ok-refuted-in-Some.ensures.searched in
    leads_searched g.R.Rank 2 None None c.args.stack.now.rows c.args.stack.now.wide c.in_ok-refuted-in-Some.refuted
    c.refute_tree.new.found (families_of c.args.self.now.parts.now 0 c.args.self.now.label) (plan_of c.in-Some.part.now) (rw c.in-Some.is at c.requires) search asks held

pub returns-in_ok-refuted-in-None-clause-searched : goal.returns-in_ok-refuted-in-None-clause-searched
returns-in_ok-refuted-in-None-clause-searched g c = c.in_ok-refuted-in-None.ensures.searched
