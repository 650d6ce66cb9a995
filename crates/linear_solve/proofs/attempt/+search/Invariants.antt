use Rattle.linear_solve.specs.Systems.{occurring}
use Rattle.linear_solve.proofs.attempt.+search.Given as goal

abbrev pub decreases-search : goal.decreases-search
decreases-search l = occurring l.rows.now
