use Rattle.std.proofs.Common.{refl}
use Rattle.decision_tree.specs.Plans.{plan_of}
use Rattle.leaf_search.proofs.Keeping.{clear_searched}
use Rattle.leaf_search.proofs.walk.Way.refute_part.Goals as goal

pub returns-then-is_clear-clause-searched : goal.returns-then-is_clear-clause-searched
returns-then-is_clear-clause-searched g c asks held =
    clear_searched g.R.Rank c.args.self.now.edge c.args.self.now.sets c.args.stack.now.rows c.args.self.now.limit (plan_of c.args.tree.now) asks c.args.stack.now.wide c.args.found.now c.if-is_none.ensures held (c.if-is_clear.ensures refl)
