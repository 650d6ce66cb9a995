use Rattle.std.proofs.Common.{◌≡◌, ◌++◌, take, map}
use Rattle.count_down.specs.Building.{plans}
use Rattle.count_down.specs.Candidates.{most_within}
use Rattle.count_down.proofs.loop_trees.add_steps.Given as goal

-- the trees of the counts so far were added
abbrev pub invariant-loop-count : goal.invariant-loop-count
invariant-loop-count l = plans l.list.items ≡ plans l.initial.list.items ++ map most_within (take l.count-index l.counts)
