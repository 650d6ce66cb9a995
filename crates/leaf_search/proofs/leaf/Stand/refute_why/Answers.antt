use Rattle.std.proofs.Common.{map, arith, subst, sym}
use Rattle.std.proofs.lemmas.Grind.{elements}
use Rattle.decision_tree.specs.Plans.{plan_of}
use Rattle.tree_support.specs.Setting.{trees_in}
use Rattle.tree_support.specs.Systems.{of_keep, of_pick}
use Rattle.constraint_stack.specs.Stacks.{all_asked}
use Rattle.constraint_stack.proofs.Choosing.{held_same}
use Rattle.leaf_search.proofs.Walking.{plain_searched, searched_first, searched_then}
use Rattle.leaf_search.specs.Ahead.{IsAhead}
use Rattle.leaf_search.proofs.leaf.Stand.refute_why.Goals as goal

pub returns-then-branch-clause-searched : goal.returns-then-branch-clause-searched
returns-then-branch-clause-searched g c at is_at asks held =
    let searched = rw c.if-branch.true at c.in_ok-refute_kept-in-Step.ensures.searched at is_at asks held in
    rw c.in-Step.is
    (searched_first g.R.Rank (of_keep at at.formula c.args.self.now.label asks)
    (of_pick at c.in-Step.pick (trees_in (map plan_of c.args.self.now.family.now)) c.args.rank.now c.args.self.now.label asks) c.refute_kept.new.found searched)

pub returns-in_ok-refuted-in-Dead-clause-searched : goal.returns-in_ok-refuted-in-Dead-clause-searched
returns-in_ok-refuted-in-Dead-clause-searched g c at is_at asks held =
    rw c.in-Dead.is (plain_searched g.R.Rank 2 asks c.in_ok-refuted-in-Dead.refuted c.refute_plain.new.found (c.in_ok-refuted-in-Dead.ensures.tried asks held))

pub returns-in_ok-refuted-in-Step-clause-searched : goal.returns-in_ok-refuted-in-Step-clause-searched
returns-in_ok-refuted-in-Step-clause-searched g c at is_at asks held =
    let none = rw c.if-branch.false at c.in_ok-refute_kept-in-Step.ensures.searched at is_at asks held in
    let again = held_same (all_asked asks) c.args.stack.now c.refute_kept.new.stack (c.in_ok-refute_kept-in-Step.ensures.same) held in
    rw c.in-Step.is
    (searched_then g.R.Rank (of_keep at at.formula c.args.self.now.label asks)
    (of_pick at c.in-Step.pick (trees_in (map plan_of c.args.self.now.family.now)) c.args.rank.now c.args.self.now.label asks) c.in_ok-refuted-in-Step.refuted c.refute_kept.new.found
    c.refute_pick.new.found none (c.in_ok-refuted-in-Step.ensures.searched at is_at asks again))

pub returns-in_ok-refuted-in-Left-clause-searched : goal.returns-in_ok-refuted-in-Left-clause-searched
returns-in_ok-refuted-in-Left-clause-searched g c = grind (arith, elements)

pub refute_kept-requires : goal.refute_kept-requires
refute_kept-requires g c = c.requires.kept

pub refute_pick-requires : goal.refute_pick-requires
refute_pick-requires g c = subst (λ rows. IsAhead c.args.self.now rows c.args.ahead.now) (sym c.in_ok-refute_kept-in-Step.ensures.same.0) c.requires
