use Rattle.std.proofs.Common.{sym, ◌∙◌}
use Rattle.leaf_search.proofs.Leaving.{end_elsewhere, end_fails}
use Rattle.leaf_search.proofs.leaf.Stand.refute_end.Goals as goal

pub returns-then-self-ne0-clause-searched : goal.returns-then-self-ne0-clause-searched
returns-then-self-ne0-clause-searched g c at is_at asks held =
    end_elsewhere g.R.Rank at c.args.self.now.part is_at.formula asks c.args.self.now.label c.in_ok-refuted.refuted c.refute_plain.new.found c.if-self-ne0.true
    (c.in_ok-refuted.ensures.tried asks held)

pub returns-clause-searched : goal.returns-clause-searched
returns-clause-searched g c at is_at asks held =
    end_fails g.R.Rank at c.args.self.now.part is_at.formula asks c.args.self.now.label c.in_ok-refuted-2.refuted c.refute_plain-2.new.found (sym c.may_end.ensures ∙ c.if-may_end.false)
    (c.in_ok-refuted-2.ensures.tried asks held)
