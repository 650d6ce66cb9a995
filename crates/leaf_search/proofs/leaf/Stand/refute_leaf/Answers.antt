use Rattle.std.proofs.Common.{map, subst, sym}
use Rattle.decision_tree.specs.Plans.{plan_of}
use Rattle.tree_support.specs.Setting.{trees_in}
use Rattle.tree_support.specs.Systems.{of_rank, of_why}
use Rattle.constraint_stack.specs.Stacks.{all_asked}
use Rattle.constraint_stack.proofs.Choosing.{held_same}
use Rattle.leaf_search.proofs.Walking.{searched_first, searched_then}
use Rattle.leaf_search.specs.Ahead.{IsAhead}
use Rattle.leaf_search.proofs.leaf.Stand.refute_leaf.Goals as goal

pub returns-then-branch-clause-searched : goal.returns-then-branch-clause-searched
returns-then-branch-clause-searched g c at is_at asks held =
    let searched = rw c.if-branch.true at c.in_ok-refute_bound.ensures.searched at is_at asks held in
    searched_first g.R.Rank (of_rank at at.formula c.args.rank.now asks)
    (of_why at c.args.why.now (trees_in (map plan_of c.args.self.now.family.now)) c.args.rank.now c.args.self.now.label asks) c.refute_bound.new.found searched

pub returns-clause-searched : goal.returns-clause-searched
returns-clause-searched g c at is_at asks held =
    let none = rw c.if-branch.false at c.in_ok-refute_bound.ensures.searched at is_at asks held in
    let again = held_same (all_asked asks) c.args.stack.now c.refute_bound.new.stack (c.in_ok-refute_bound.ensures.same) held in
    searched_then g.R.Rank (of_rank at at.formula c.args.rank.now asks)
    (of_why at c.args.why.now (trees_in (map plan_of c.args.self.now.family.now)) c.args.rank.now c.args.self.now.label asks) c.in_ok-refuted.refuted c.refute_bound.new.found
    c.refute_why.new.found none (c.in_ok-refuted.ensures.searched at is_at asks again)

pub refute_why-requires : goal.refute_why-requires
refute_why-requires g c = subst (λ rows. IsAhead c.args.self.now rows c.args.ahead.now) (sym c.in_ok-refute_bound.ensures.same.0) c.requires
