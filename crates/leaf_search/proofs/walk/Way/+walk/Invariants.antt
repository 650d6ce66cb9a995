use Rattle.std.specs.Prelude.{◌+◌, ◌*◌}
use Rattle.decision_tree.specs.Plans.{plan_of, size_of}
use Rattle.leaf_search.proofs.walk.Way.+walk.Given as goal

abbrev pub decreases-refute : goal.decreases-refute
decreases-refute g l = 2 * size_of (plan_of l.tree.now)

abbrev pub decreases-refute_behind : goal.decreases-refute_behind
decreases-refute_behind g l = 2 * size_of (plan_of l.side.now) + 1
