use Rattle.std.proofs.Common.{sym, ◌∙◌}
use Rattle.leaf_search.proofs.Leaving.{kept_searched}
use Rattle.leaf_search.proofs.leaf.Stand.refute_kept.Goals as goal

pub returns-then-keeps-clause-searched : goal.returns-then-keeps-clause-searched
returns-then-keeps-clause-searched g c at is_at asks held =
    kept_searched g.R.Rank at c.args.self.now.part is_at.formula asks c.args.self.now.label c.in_ok-refuted.refuted c.refute_first.new.found (sym c.keeps.ensures ∙ c.if-keeps.true)
    (rw is_at.parts (c.in_ok-refuted.ensures.searched asks held))
