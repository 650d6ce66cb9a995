use Rattle.std.proofs.Common.{map, subst, sym, ◌∙◌}
use Rattle.decision_tree.specs.Plans.{plan_of}
use Rattle.tree_support.specs.Setting.{trees_in}
use Rattle.tree_support.specs.Systems.{of_value}
use Rattle.constraint_stack.specs.Stacks.{all_asked}
use Rattle.constraint_stack.specs.Searches.{IsSearched}
use Rattle.constraint_stack.proofs.Choosing.{held_same}
use Rattle.leaf_search.proofs.Leaving.{no_value, some_fails, some_searched, value_above, value_below, value_put}
use Rattle.leaf_search.proofs.Walking.{plain_searched}
use Rattle.leaf_search.proofs.leaf.Stand.refute_value.Goals as goal

pub returns-then-not-is_existential-clause-searched : goal.returns-then-not-is_existential-clause-searched
returns-then-not-is_existential-clause-searched g c at is_at asks held =
    some_fails g.R.Rank at c.args.self.now.part is_at.formula asks (of_value at (at.flow.choice c.args.self.now.label) c.args.value.now (trees_in (map plan_of c.args.self.now.family.now)) c.args.rank.now c.args.self.now.label asks)
    c.in_ok-refuted.refuted c.refute_plain.new.found (sym c.is_existential.ensures ∙ c.if-not-is_existential.true) (c.in_ok-refuted.ensures.tried asks held)

pub returns-then-branch-clause-searched : goal.returns-then-branch-clause-searched
returns-then-branch-clause-searched g c at is_at asks held =
    let tried = rw c.if-branch.true at c.in_ok-refute_below-in-Range.ensures.tried asks held in
    value_below g.R.Rank at c.args.self.now.part is_at.formula asks c.in-Range.lo c.in-Range.hi c.args.value.now (trees_in (map plan_of c.args.self.now.family.now)) c.args.rank.now c.args.self.now.label (is_at.chosen ∙ c.in-Range.is) (sym c.is_existential.ensures ∙ c.if-not-is_existential.false)
    c.refute_below.new.found tried

pub returns-then-branch-2-clause-searched : goal.returns-then-branch-2-clause-searched
returns-then-branch-2-clause-searched g c at is_at asks held =
    let none = rw c.if-branch.false at c.in_ok-refute_below-in-Range.ensures.tried asks held in
    let again = held_same (all_asked asks) c.args.stack.now c.refute_below.new.stack (c.in_ok-refute_below-in-Range.ensures.same) held in
    let tried = rw c.if-branch-2.true at c.in_ok-refute_above-in-Range.ensures.tried asks again in
    value_above g.R.Rank at c.args.self.now.part is_at.formula asks c.in-Range.lo c.in-Range.hi c.args.value.now (trees_in (map plan_of c.args.self.now.family.now)) c.args.rank.now c.args.self.now.label (is_at.chosen ∙ c.in-Range.is) (sym c.is_existential.ensures ∙ c.if-not-is_existential.false)
    c.refute_below.new.found c.refute_above.new.found none tried

pub returns-in_ok-refuted-in-Range-clause-searched : goal.returns-in_ok-refuted-in-Range-clause-searched
returns-in_ok-refuted-in-Range-clause-searched g c at is_at asks held =
    let none = rw c.if-branch.false at c.in_ok-refute_below-in-Range.ensures.tried asks held in
    let again = held_same (all_asked asks) c.args.stack.now c.refute_below.new.stack (c.in_ok-refute_below-in-Range.ensures.same) held in
    let neither = rw c.if-branch-2.false at c.in_ok-refute_above-in-Range.ensures.tried asks again in
    let still = held_same (all_asked asks) c.refute_below.new.stack c.refute_above.new.stack (c.in_ok-refute_above-in-Range.ensures.same) again in
    value_put g.R.Rank at c.args.self.now.part is_at.formula asks c.in-Range.lo c.in-Range.hi c.args.value.now (trees_in (map plan_of c.args.self.now.family.now)) c.args.rank.now c.args.self.now.label (is_at.chosen ∙ c.in-Range.is) (sym c.is_existential.ensures ∙ c.if-not-is_existential.false)
    c.in_ok-refuted-in-Range.refuted c.refute_below.new.found c.refute_above.new.found c.refute_put.new.found none neither (c.in_ok-refuted-in-Range.ensures.searched at is_at asks still)

pub returns-in_ok-refuted-in_default : goal.returns-in_ok-refuted-in_default
returns-in_ok-refuted-in_default g c =
    record {
      same = c.in_ok-refuted-in_default.ensures.same;
      searched = λ at is_at asks held.
          let list = of_value at (at.flow.choice c.args.self.now.label) c.args.value.now (trees_in (map plan_of c.args.self.now.family.now)) c.args.rank.now c.args.self.now.label asks in
          some_searched g.R.Rank at c.args.self.now.part is_at.formula asks list c.in_ok-refuted-in_default.refuted c.refute_plain-in_default.new.found (sym c.is_existential.ensures ∙ c.if-not-is_existential.false)
          (subst (λ systems. IsSearched g.R.Rank systems c.in_ok-refuted-in_default.refuted c.refute_plain-in_default.new.found)
          (sym (no_value g.R.Rank at c.args.self.now.part is_at.formula asks (at.flow.choice c.args.self.now.label) c.args.value.now (trees_in (map plan_of c.args.self.now.family.now)) c.args.rank.now c.args.self.now.label
          (λ lo hi same. c.in_default.not-Range lo hi (sym is_at.chosen ∙ same))))
          (plain_searched g.R.Rank 2 asks c.in_ok-refuted-in_default.refuted c.refute_plain-in_default.new.found (c.in_ok-refuted-in_default.ensures.tried asks held)));
    }
