use Rattle.tree_unify.proofs.Meeting.{unlike}
use Rattle.decision_tree.specs.Plans.{plan_of}
use Rattle.tree_unify.proofs.walk.are_equal.Goals as goal

pub returns-then-size-other_size : goal.returns-then-size-other_size
returns-then-size-other_size g c = unlike g.R.PartialEq.eq g.met.R.Rank.equal_law c.args.size c.args.other_size (plan_of c.args.tree.now) (plan_of c.args.other.now) c.requires.0 c.requires.1 c.if-size-other_size.true
