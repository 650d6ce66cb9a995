use Rattle.std.proofs.Common.{◌≡◌, length}
use Rattle.ctl_rounds.proofs.hints.undefined.Given as goal

-- a tree for each turn so far
abbrev pub invariant-loop : goal.invariant-loop
invariant-loop l = length l.trees.items ≡ l.counter
