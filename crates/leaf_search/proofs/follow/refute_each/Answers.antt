use Rattle.std.proofs.Common.{◌+◌, None, true, false, arith, map, ◌∙◌}
use Rattle.decision_tree.specs.Plans.{plan_of}
use Rattle.tree_support.specs.Setting.{trees_in}
use Rattle.constraint_stack.specs.Stacks.{all_asked}
use Rattle.constraint_stack.proofs.Choosing.{held_same}
use Rattle.leaf_search.proofs.Following.{arcs_end, arcs_found, arcs_searched, testing_rows}
use Rattle.leaf_search.proofs.Leading.{told_same}
use Rattle.leaf_search.proofs.follow.refute_each.Goals as goal

pub returns-then-branch-clause-searched : goal.returns-then-branch-clause-searched
returns-then-branch-clause-searched g c asks held =
    let again = held_same (all_asked asks) c.args.stack.now c.loop-rows.stack c.loop-rows.invariant.0 held in
    let searched = c.in_ok-refute_behind.ensures.searched asks again in
    arcs_found g.R.Rank (trees_in (map plan_of c.args.trees.now)) c.args.limit (testing_rows c.args.edge c.args.label) c.args.conjunctions.now (c.loop-rows.rows-index + 1) asks c.refute_behind.new.found
    (arcs_searched g.R.Rank (trees_in (map plan_of c.args.trees.now)) c.args.limit (testing_rows c.args.edge c.args.label) c.args.conjunctions.now c.loop-rows.rows-index c.rows-item.result asks true c.loop-rows.found c.refute_behind.new.found (omega arith) c.rows-item.is (c.loop-rows.invariant.1 asks held) (rw (c.items.ensures, c.if-branch.true) at searched))

pub loop-rows-preserved : goal.loop-rows-preserved
loop-rows-preserved g c =
    let same = c.in_ok-refute_behind.ensures.same in (
      (same.0 ∙ c.loop-rows.invariant.0.0, same.1 ∙ c.loop-rows.invariant.0.1),
      λ asks held.
          let again = held_same (all_asked asks) c.args.stack.now c.loop-rows.stack c.loop-rows.invariant.0 held in
          let searched = c.in_ok-refute_behind.ensures.searched asks again in
          arcs_searched g.R.Rank (trees_in (map plan_of c.args.trees.now)) c.args.limit (testing_rows c.args.edge c.args.label) c.args.conjunctions.now c.loop-rows.rows-index c.rows-item.result asks false c.loop-rows.found c.refute_behind.new.found (omega arith) c.rows-item.is (c.loop-rows.invariant.1 asks held) (rw (c.items.ensures, c.if-branch.false) at searched),
    )

pub returns-clause-searched : goal.returns-clause-searched
returns-clause-searched g c asks held =
    arcs_end g.R.Rank (trees_in (map plan_of c.args.trees.now)) c.args.limit (testing_rows c.args.edge c.args.label) c.args.conjunctions.now c.loop-rows.rows-index asks (omega arith) (c.loop-rows.invariant.1 asks held)

pub refute_behind-requires-clause-ahead : goal.refute_behind-requires-clause-ahead
refute_behind-requires-clause-ahead g c =
    told_same (λ part. plan_of part.now) None (trees_in (map plan_of c.args.trees.now) c.args.label) c.args.stack.now.rows c.loop-rows.stack.rows c.args.ahead
    c.loop-rows.invariant.0.0 c.requires.ahead
