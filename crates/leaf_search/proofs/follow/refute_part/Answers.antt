use Rattle.std.proofs.Common.{map}
use Rattle.decision_tree.specs.Plans.{plan_of}
use Rattle.tree_support.specs.Setting.{trees_in}
use Rattle.leaf_search.proofs.Leading.{leads_searched}
use Rattle.leaf_search.proofs.follow.refute_part.Goals as goal

pub returns-in_ok-refuted-in-Some-clause-searched : goal.returns-in_ok-refuted-in-Some-clause-searched
returns-in_ok-refuted-in-Some-clause-searched g c asks held =
    leads_searched g.R.Rank c.args.way.now.edge c.args.way.now.sets c.args.way.now.limit c.args.stack.now.rows c.args.stack.now.wide c.in_ok-refuted-in-Some.refuted
    c.refute_tree.new.found (trees_in (map plan_of c.args.trees.now) c.args.label) (plan_of c.in-Some.part.now) (rw c.in-Some.is at c.requires.ahead) c.in_ok-refuted-in-Some.ensures.searched asks held

pub returns-in_ok-refuted-in-None-clause-searched : goal.returns-in_ok-refuted-in-None-clause-searched
returns-in_ok-refuted-in-None-clause-searched g c = c.in_ok-refuted-in-None.ensures.searched
