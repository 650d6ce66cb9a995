use Rattle.std.proofs.Common.{◌-◌, ◌≤◌, length}
use Rattle.linear_solve.proofs.opposed.meets_opposed.Given as goal

abbrev pub invariant-loop-first : goal.invariant-loop-first
invariant-loop-first l = l.end ≤ length l.rows

abbrev pub decreases-loop-first : goal.decreases-loop-first
decreases-loop-first l = l.end - l.first
