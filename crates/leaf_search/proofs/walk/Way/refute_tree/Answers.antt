use Rattle.decision_tree.specs.Plans.{plan_of}
use Rattle.leaf_search.proofs.Leading.{leads_searched}
use Rattle.leaf_search.proofs.walk.Way.refute_tree.Goals as goal

pub returns-clause-searched : goal.returns-clause-searched
returns-clause-searched g c asks held =
    leads_searched g.R.Rank c.args.self.now.edge c.args.self.now.sets c.args.self.now.limit c.args.stack.now.rows c.args.stack.now.wide c.in_ok-refuted.refuted
    c.refute_part.new.found (plan_of c.args.tree.now) (plan_of c.led-part.result.now) c.led-part.ensures c.in_ok-refuted.ensures.searched asks held
