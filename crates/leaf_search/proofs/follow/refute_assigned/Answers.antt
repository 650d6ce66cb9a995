use Rattle.std.proofs.Common.{map}
use Rattle.decision_tree.specs.Plans.{plan_of}
use Rattle.tree_support.specs.Setting.{trees_in}
use Rattle.leaf_search.proofs.Following.{unasked_searched}
use Rattle.leaf_search.proofs.follow.refute_assigned.Goals as goal

pub returns-clause-searched : goal.returns-clause-searched
returns-clause-searched g c asks held =
    unasked_searched g.R.Rank (trees_in (map plan_of c.args.trees.now)) c.args.limit 0 c.args.label c.args.sets asks c.in_ok-refuted.refuted
    c.refute_part.new.found (c.in_ok-refuted.ensures.searched asks held)
