use Rattle.std.proofs.Common.{◌≡◌}
use Rattle.linear_solve.proofs.tableau.Tableau.exchange.Given as goal

abbrev pub invariant-loop-other : goal.invariant-loop-other
invariant-loop-other l = l.pivot.column ≡ l.column
