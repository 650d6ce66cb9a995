use Rattle.std.proofs.Common.{map, subst, sym, ◌∙◌}
use Rattle.decision_tree.specs.Plans.{plan_of}
use Rattle.tree_support.specs.Setting.{trees_in}
use Rattle.tree_support.specs.Systems.{of_outcome}
use Rattle.constraint_stack.specs.Searches.{IsSearched}
use Rattle.leaf_search.proofs.Leaving.{no_outcome, some_fails, some_searched}
use Rattle.leaf_search.proofs.Walking.{plain_searched}
use Rattle.leaf_search.proofs.leaf.Stand.refute_outcome.Goals as goal

pub returns-then-not-is_existential-clause-searched : goal.returns-then-not-is_existential-clause-searched
returns-then-not-is_existential-clause-searched g c at is_at asks held =
    some_fails g.R.Rank at c.args.self.now.part is_at.formula asks (of_outcome at (at.flow.choice c.args.self.now.label) c.args.outcome (trees_in (map plan_of c.args.self.now.family.now)) c.args.rank.now c.args.self.now.label asks)
    c.in_ok-refuted.refuted c.refute_plain.new.found (sym c.is_existential.ensures ∙ c.if-not-is_existential.true) (c.in_ok-refuted.ensures.tried asks held)

pub returns-in_ok-refuted-in-Branch-clause-searched : goal.returns-in_ok-refuted-in-Branch-clause-searched
returns-in_ok-refuted-in-Branch-clause-searched g c at is_at asks held =
    some_searched g.R.Rank at c.args.self.now.part is_at.formula asks (of_outcome at (at.flow.choice c.args.self.now.label) c.args.outcome (trees_in (map plan_of c.args.self.now.family.now)) c.args.rank.now c.args.self.now.label asks)
    c.in_ok-refuted-in-Branch.refuted c.refute_branch.new.found (sym c.is_existential.ensures ∙ c.if-not-is_existential.false)
    (rw (is_at.chosen, c.in-Branch.is) (c.in_ok-refuted-in-Branch.ensures.searched at is_at asks held))

pub returns-in_ok-refuted-in_default : goal.returns-in_ok-refuted-in_default
returns-in_ok-refuted-in_default g c =
    record {
      same = c.in_ok-refuted-in_default.ensures.same;
      searched = λ at is_at asks held.
          let list = of_outcome at (at.flow.choice c.args.self.now.label) c.args.outcome (trees_in (map plan_of c.args.self.now.family.now)) c.args.rank.now c.args.self.now.label asks in
          some_searched g.R.Rank at c.args.self.now.part is_at.formula asks list c.in_ok-refuted-in_default.refuted c.refute_plain-in_default.new.found (sym c.is_existential.ensures ∙ c.if-not-is_existential.false)
          (subst (λ systems. IsSearched g.R.Rank systems c.in_ok-refuted-in_default.refuted c.refute_plain-in_default.new.found)
          (sym (no_outcome g.R.Rank at c.args.self.now.part is_at.formula asks (at.flow.choice c.args.self.now.label) c.args.outcome (trees_in (map plan_of c.args.self.now.family.now)) c.args.rank.now c.args.self.now.label
          (λ same. c.in_default.not-Branch (sym is_at.chosen ∙ same))))
          (plain_searched g.R.Rank 2 asks c.in_ok-refuted-in_default.refuted c.refute_plain-in_default.new.found (c.in_ok-refuted-in_default.ensures.tried asks held)));
    }
