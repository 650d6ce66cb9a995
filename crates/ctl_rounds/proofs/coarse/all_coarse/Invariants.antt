use Rattle.std.proofs.Common.{◌≡◌, length}
use Rattle.ctl_rounds.proofs.coarse.all_coarse.Given as goal

-- there is a tree for each label so far
abbrev pub invariant-loop-label : goal.invariant-loop-label
invariant-loop-label l = length l.made.items ≡ l.label
