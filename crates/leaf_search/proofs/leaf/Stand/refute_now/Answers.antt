use Rattle.std.proofs.Common.{sym, ◌∙◌}
use Rattle.leaf_search.proofs.Leaving.{now_fails, now_searched}
use Rattle.leaf_search.proofs.leaf.Stand.refute_now.Goals as goal

pub returns-in_ok-refuted-in-Some-clause-searched : goal.returns-in_ok-refuted-in-Some-clause-searched
returns-in_ok-refuted-in-Some-clause-searched g c at is_at asks held =
    now_searched g.R.Rank at c.args.self.now.part is_at.formula asks c.args.self.now.label c.in-Some.number c.in_ok-refuted-in-Some.refuted c.refute_part.new.found (sym c.met_now.ensures ∙ c.in-Some.is)
    (rw is_at.parts (c.in_ok-refuted-in-Some.ensures.searched asks held))

pub returns-in_ok-refuted-in-None-clause-searched : goal.returns-in_ok-refuted-in-None-clause-searched
returns-in_ok-refuted-in-None-clause-searched g c at is_at asks held =
    now_fails g.R.Rank at c.args.self.now.part is_at.formula asks c.args.self.now.label c.in_ok-refuted-in-None.refuted c.refute_plain.new.found (sym c.met_now.ensures ∙ c.in-None.is)
    (c.in_ok-refuted-in-None.ensures.tried asks held)
