use Rattle.std.proofs.Common.{reverse, vec_len}
use Rattle.decision_tree.specs.Plans.{plan_of}
use Rattle.decision_tree.specs.Seeking.{AlongFits, path_along}
use Rattle.decision_tree.proofs.Paths.{Going}
use Rattle.decision_tree.proofs.tree.Tree.rows_along.Given as goal

-- the rows so far and the rest of the way are the whole way, and its complements fit where the rest's do
abbrev pub invariant-loop-side : goal.invariant-loop-side
invariant-loop-side g l = Going l.rows.items (plan_of l.at) (reverse l.sides.items) (path_along (plan_of l.self) (reverse l.fn.sides.items)) (AlongFits (plan_of l.self) (reverse l.fn.sides.items))

abbrev pub decreases-loop-side : goal.decreases-loop-side
decreases-loop-side g l = vec_len l.sides
