use Rattle.std.proofs.Common.{◌≡◌, take}
use Rattle.arena_builders.proofs.trimming.follow.Given as goal

-- the walk has gone down the rows so far
abbrev pub invariant-loop-row : goal.invariant-loop-row
invariant-loop-row l = l.walk.trail ≡ take l.row-index l.path
