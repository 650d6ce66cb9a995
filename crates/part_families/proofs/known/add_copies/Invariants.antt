use Rattle.std.proofs.Common.{◌≡◌, ◌++◌, map, replicate}
use Rattle.decision_tree.specs.Plans.{plan_of}
use Rattle.part_families.proofs.known.add_copies.Given as goal

-- as many copies as rounds were added
abbrev pub invariant-loop : goal.invariant-loop
invariant-loop l = map plan_of l.trees.items ≡ map plan_of l.initial.trees.items ++ replicate l.counter (plan_of l.tree)
