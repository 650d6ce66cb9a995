use Rattle.linear_solve.specs.Systems.{occurring}
use Rattle.linear_solve.proofs.solver.+solve.Given as goal

abbrev pub decreases-solve : goal.decreases-solve
decreases-solve l = occurring l.rows.now
