use Rattle.decision_tree.specs.Laws.EqualityLaws.{plan_eq-Decides}
use Rattle.decision_tree.specs.Plans.{plan_of}
use Rattle.decision_tree.proofs.tree.TreePartialEq.eq.Goals as goal

pub returns-clause-identical : goal.returns-clause-identical
returns-clause-identical g c = rw c.is_same.ensures (plan_eq-Decides _ g.met.R.Rank.equal_law (plan_of c.args.self.now) (plan_of c.args.other.now))
