use Rattle.std.proofs.Common.{◌≡◌, ◌↔◌}
use Rattle.decision_tree.specs.Evaluation.{WayFits, eval}
use Rattle.decision_tree.specs.Plans.{plan_of}
use Rattle.decision_tree.proofs.tree.Tree.leaf_at.Given as goal

-- the rest of the way is that of the whole tree
abbrev pub invariant-loop-at : goal.invariant-loop-at
invariant-loop-at g l = (eval (plan_of l.at) l.store ≡ eval (plan_of l.self) l.store) × (WayFits (plan_of l.at) l.store ↔ WayFits (plan_of l.self) l.store)
