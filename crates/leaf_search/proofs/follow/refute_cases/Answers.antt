use Rattle.std.proofs.Common.{◌+◌, List, true, false, arith, map, ◌∙◌}
use Rattle.linear_cons.specs.declared.row.Row.{Row}
use Rattle.decision_tree.specs.Plans.{plan_of}
use Rattle.tree_support.specs.Arcs.{choosing}
use Rattle.tree_support.specs.Setting.{trees_in}
use Rattle.constraint_stack.specs.Stacks.{all_asked}
use Rattle.constraint_stack.proofs.Choosing.{held_same}
use Rattle.leaf_search.proofs.Following.{arcs_end, arcs_found, arcs_searched, chosen_searched}
use Rattle.leaf_search.proofs.follow.refute_cases.Goals as goal

pub returns-then-branch-clause-searched : goal.returns-then-branch-clause-searched
returns-then-branch-clause-searched g c asks held =
    let again = held_same (all_asked asks) c.args.stack.now c.loop-rows.stack c.loop-rows.invariant.0 held in
    let searched = rw (c.items.ensures, c.var.ensures, c.if-branch.true) at c.in_ok-refute_above.ensures.searched asks again in
    arcs_found g.R.Rank (trees_in (map plan_of c.args.trees.now)) c.args.limit (λ (rows : List Row). choosing c.args.place.number c.args.label c.args.value.now rows) c.args.cases.now (c.loop-rows.rows-index + 1) asks c.refute_above.new.found
    (arcs_searched g.R.Rank (trees_in (map plan_of c.args.trees.now)) c.args.limit (λ (rows : List Row). choosing c.args.place.number c.args.label c.args.value.now rows) c.args.cases.now c.loop-rows.rows-index c.rows-item.result asks true c.loop-rows.found c.refute_above.new.found (omega arith) c.rows-item.is (c.loop-rows.invariant.1 asks held)
    (chosen_searched g.R.Rank (trees_in (map plan_of c.args.trees.now)) c.args.limit c.args.place.number c.args.label c.args.value.now c.rows-item.result asks true c.refute_above.new.found searched))

pub loop-rows-preserved : goal.loop-rows-preserved
loop-rows-preserved g c =
    let same = c.in_ok-refute_above.ensures.same in (
      (same.0 ∙ c.loop-rows.invariant.0.0, same.1 ∙ c.loop-rows.invariant.0.1),
      λ asks held.
          let again = held_same (all_asked asks) c.args.stack.now c.loop-rows.stack c.loop-rows.invariant.0 held in
          let searched = rw (c.items.ensures, c.var.ensures, c.if-branch.false) at c.in_ok-refute_above.ensures.searched asks again in
          arcs_searched g.R.Rank (trees_in (map plan_of c.args.trees.now)) c.args.limit (λ (rows : List Row). choosing c.args.place.number c.args.label c.args.value.now rows) c.args.cases.now c.loop-rows.rows-index c.rows-item.result asks false c.loop-rows.found c.refute_above.new.found (omega arith) c.rows-item.is (c.loop-rows.invariant.1 asks held)
          (chosen_searched g.R.Rank (trees_in (map plan_of c.args.trees.now)) c.args.limit c.args.place.number c.args.label c.args.value.now c.rows-item.result asks false c.refute_above.new.found searched),
    )

pub returns-clause-searched : goal.returns-clause-searched
returns-clause-searched g c asks held =
    arcs_end g.R.Rank (trees_in (map plan_of c.args.trees.now)) c.args.limit (λ (rows : List Row). choosing c.args.place.number c.args.label c.args.value.now rows) c.args.cases.now c.loop-rows.rows-index asks (omega arith) (c.loop-rows.invariant.1 asks held)
