use Rattle.std.proofs.Common.{◌≤◌}
use Rattle.linear_solve.proofs.attempt.glance.Given as goal

abbrev pub invariant-loop-row : goal.invariant-loop-row
invariant-loop-row l = l.sought ≤ 8
