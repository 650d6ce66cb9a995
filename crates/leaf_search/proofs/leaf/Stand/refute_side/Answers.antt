use Rattle.std.proofs.Common.{sym, ◌∙◌}
use Rattle.leaf_search.proofs.Leaving.{side_fails, side_searched}
use Rattle.leaf_search.proofs.leaf.Stand.refute_side.Goals as goal

pub returns-then-not-is_either-clause-searched : goal.returns-then-not-is_either-clause-searched
returns-then-not-is_either-clause-searched g c at is_at asks held =
    side_fails g.R.Rank at c.args.self.now.part is_at.formula asks c.args.self.now.label c.args.side c.in_ok-refuted.refuted c.refute_plain.new.found (sym c.is_either.ensures ∙ c.if-not-is_either.true)
    (c.in_ok-refuted.ensures.tried asks held)

pub returns-clause-searched : goal.returns-clause-searched
returns-clause-searched g c at is_at asks held =
    side_searched g.R.Rank at c.args.self.now.part is_at.formula asks c.args.self.now.label c.args.side c.in_ok-refuted-2.refuted c.refute_part.new.found (sym c.is_either.ensures ∙ c.if-not-is_either.false)
    (rw is_at.parts (c.in_ok-refuted-2.ensures.searched asks held))
