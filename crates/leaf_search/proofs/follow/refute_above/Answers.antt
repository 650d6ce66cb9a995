use Rattle.std.proofs.Common.{◌++◌, map}
use Rattle.decision_tree.specs.Plans.{plan_of}
use Rattle.tree_support.specs.Arcs.{above_end, below_end, rows_given}
use Rattle.tree_support.specs.Setting.{trees_in}
use Rattle.leaf_search.proofs.Following.{nowhere_more}
use Rattle.leaf_search.proofs.Walking.{nowhere_behind}
use Rattle.leaf_search.proofs.follow.refute_above.Goals as goal

pub returns-then-not-branch-clause-searched : goal.returns-then-not-branch-clause-searched
returns-then-not-branch-clause-searched g c asks held =
    nowhere_behind g.R.Rank c.args.way.now.edge c.args.way.now.sets c.args.way.now.limit (trees_in (map plan_of c.args.trees.now) c.args.label) (((asks ++ above_end c.args.value.now.affine c.args.value.now.lo) ++ below_end c.args.value.now.affine c.args.value.now.hi) ++ rows_given c.args.rows.now)
    (nowhere_more ((asks ++ above_end c.args.value.now.affine c.args.value.now.lo) ++ below_end c.args.value.now.affine c.args.value.now.hi) (rows_given c.args.rows.now)
    (nowhere_more (asks ++ above_end c.args.value.now.affine c.args.value.now.lo) (below_end c.args.value.now.affine c.args.value.now.hi) (c.in_ok-add_end.ensures.nowhere c.if-not-branch.true asks (above_end c.args.value.now.affine c.args.value.now.lo) c.above-formed.ensures held)))

pub returns-clause-searched : goal.returns-clause-searched
returns-clause-searched g c asks held =
    c.in_ok-refuted.ensures.searched (asks ++ above_end c.args.value.now.affine c.args.value.now.lo) (c.in_ok-add_end.ensures.held c.if-not-branch.false asks (above_end c.args.value.now.affine c.args.value.now.lo) c.above-formed.ensures held)
