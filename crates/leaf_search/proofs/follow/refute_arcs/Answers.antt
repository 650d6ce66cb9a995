use Rattle.std.proofs.Common.{map}
use Rattle.tree_support.specs.Arcs.{testing}
use Rattle.decision_tree.specs.Plans.{plan_of}
use Rattle.tree_support.specs.Setting.{trees_in}
use Rattle.constraint_stack.specs.Stacks.{all_asked}
use Rattle.constraint_stack.proofs.Choosing.{held_same}
use Rattle.leaf_search.proofs.Following.{test_found, test_searched}
use Rattle.leaf_search.proofs.follow.refute_arcs.Goals as goal

pub returns-in-End-clause-searched : goal.returns-in-End-clause-searched
returns-in-End-clause-searched g c = rw c.in-End.is c.refute_assigned.ensures.searched

pub returns-in-Pass-clause-searched : goal.returns-in-Pass-clause-searched
returns-in-Pass-clause-searched g c = rw c.in-Pass.is c.refute_assigned-in-Pass.ensures.searched

pub returns-in-Assign-clause-searched : goal.returns-in-Assign-clause-searched
returns-in-Assign-clause-searched g c = rw c.in-Assign.is c.refute_put.ensures.searched

pub returns-in_ok-refuted-in-Choose-clause-searched : goal.returns-in_ok-refuted-in-Choose-clause-searched
returns-in_ok-refuted-in-Choose-clause-searched g c asks held =
    let searched = rw c.deref.ensures.value at c.in_ok-refuted-in-Choose.ensures.searched asks held in
    rw c.in-Choose.is searched

pub returns-then-branch-clause-searched : goal.returns-then-branch-clause-searched
returns-then-branch-clause-searched g c asks held =
    let searched = rw (c.if-branch.true, c.in-Test.is) at c.in_ok-refute_outcome-in-Test.ensures.searched asks held in
    rw c.in-Test.is (test_found g.R.Rank (trees_in (map plan_of c.args.trees.now)) c.args.limit (testing 0 c.in-Test.yes c.in-Test.holds.items) (testing 1 c.in-Test.no c.in-Test.fails.items) asks c.refute_outcome.new.found searched)

pub returns-in_ok-refuted-in-Test-clause-searched :
    goal.returns-in_ok-refuted-in-Test-clause-searched
returns-in_ok-refuted-in-Test-clause-searched g c asks held =
    let none = rw (c.if-branch.false, c.in-Test.is) at c.in_ok-refute_outcome-in-Test.ensures.searched asks held in
    let again = held_same (all_asked asks) c.args.stack.now c.refute_outcome.new.stack (c.in_ok-refute_outcome-in-Test.ensures.same) held in
    let searched = rw c.in-Test.is at c.in_ok-refuted-in-Test.ensures.searched asks again in
    rw c.in-Test.is (test_searched g.R.Rank (trees_in (map plan_of c.args.trees.now)) c.args.limit (testing 0 c.in-Test.yes c.in-Test.holds.items) (testing 1 c.in-Test.no c.in-Test.fails.items) asks c.in_ok-refuted-in-Test.refuted c.refute_outcome-in-Test.new.found none searched)

pub refute_assigned-requires-clause-ahead : goal.refute_assigned-requires-clause-ahead
refute_assigned-requires-clause-ahead g c = rw c.in-End.is at c.requires.first
