use Rattle.std.proofs.Common.{sym, ◌∙◌}
use Rattle.constraint_stack.specs.Stacks.{all_asked}
use Rattle.constraint_stack.proofs.Choosing.{held_same}
use Rattle.leaf_search.proofs.Leaving.{both_fails, both_found, both_searched}
use Rattle.leaf_search.proofs.leaf.Stand.refute_both.Goals as goal

pub returns-then-not-is_both-clause-searched : goal.returns-then-not-is_both-clause-searched
returns-then-not-is_both-clause-searched g c at is_at asks held =
    both_fails g.R.Rank at c.args.self.now.part is_at.formula asks c.args.self.now.label c.in_ok-refuted.refuted c.refute_plain.new.found (sym c.is_both.ensures ∙ c.if-not-is_both.true)
    (c.in_ok-refuted.ensures.tried asks held)

pub returns-then-branch-clause-searched : goal.returns-then-branch-clause-searched
returns-then-branch-clause-searched g c at is_at asks held =
    let searched = rw c.if-branch.true at c.in_ok-refute_part.ensures.searched asks held in
    both_found g.R.Rank at c.args.self.now.part is_at.formula asks c.args.self.now.label c.refute_part.new.found (sym c.is_both.ensures ∙ c.if-not-is_both.false) (rw is_at.parts searched)

pub returns-clause-searched : goal.returns-clause-searched
returns-clause-searched g c at is_at asks held =
    let none = rw c.if-branch.false at c.in_ok-refute_part.ensures.searched asks held in
    let again = held_same (all_asked asks) c.args.stack.now c.refute_part.new.stack (c.in_ok-refute_part.ensures.same) held in
    both_searched g.R.Rank at c.args.self.now.part is_at.formula asks c.args.self.now.label c.in_ok-refuted-2.refuted c.refute_part-2.new.found (sym c.is_both.ensures ∙ c.if-not-is_both.false)
    (rw is_at.parts none) (rw is_at.parts (c.in_ok-refuted-2.ensures.searched asks again))
