use Rattle.std.proofs.Common.{◌≡◌, map, take}
use Rattle.decision_tree.specs.Plans.{plan_of}
use Rattle.split_rounds.proofs.refining.copied.Given as goal

-- those so far are copied
abbrev pub invariant-loop-tree : goal.invariant-loop-tree
invariant-loop-tree l = map plan_of l.twins.items ≡ map plan_of (take l.tree-index l.tree-items)
