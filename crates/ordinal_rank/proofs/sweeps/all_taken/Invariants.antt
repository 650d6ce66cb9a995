use Rattle.std.proofs.Common.{◌≡◌, length}
use Rattle.ordinal_rank.proofs.sweeps.all_taken.Given as goal

-- a tree for each label so far
abbrev pub invariant-loop-label : goal.invariant-loop-label
invariant-loop-label l = length l.trees.items ≡ l.label
