use Rattle.std.proofs.Common.{◌≡◌, map, take}
use Rattle.backward_transfer.specs.AffineShapes.{plans}
use Rattle.backward_sweeps.specs.Claiming.{taken_over}
use Rattle.part_trees.proofs.claims.each_taken_over.Given as goal

-- those so far are taken over
abbrev pub invariant-loop-tree : goal.invariant-loop-tree
invariant-loop-tree l = plans l.made.items ≡ map (taken_over l.why) (plans (take l.tree-index l.trees))
