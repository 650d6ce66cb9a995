use Rattle.std.proofs.Common.{◌++◌, map}
use Rattle.decision_tree.specs.Plans.{plan_of}
use Rattle.tree_support.specs.Arcs.{rows_given}
use Rattle.tree_support.specs.Setting.{trees_in}
use Rattle.leaf_search.proofs.Walking.{nowhere_behind}
use Rattle.leaf_search.proofs.Leading.{told_longer}
use Rattle.leaf_search.proofs.follow.refute_behind.Goals as goal

pub returns-then-not-branch-clause-searched : goal.returns-then-not-branch-clause-searched
returns-then-not-branch-clause-searched g c asks held =
    nowhere_behind g.R.Rank c.args.way.now.edge c.args.way.now.sets c.args.way.now.limit (trees_in (map plan_of c.args.trees.now) c.args.label) (asks ++ rows_given c.args.rows.now)
    (c.in_ok-add_rows.ensures.nowhere c.if-not-branch.true asks held)

pub returns-clause-searched : goal.returns-clause-searched
returns-clause-searched g c asks held =
    c.in_ok-refuted.ensures.searched (asks ++ rows_given c.args.rows.now) (c.in_ok-add_rows.ensures.held c.if-not-branch.false asks held)

pub refute_part-requires-clause-ahead : goal.refute_part-requires-clause-ahead
refute_part-requires-clause-ahead g c =
    told_longer (λ part. plan_of part.now) c.args.way.now.sets (trees_in (map plan_of c.args.trees.now) c.args.label) c.args.stack.now.rows c.add_rows.new.stack.rows
    c.args.ahead c.in_ok-add_rows.ensures.longer.0 c.requires.ahead
