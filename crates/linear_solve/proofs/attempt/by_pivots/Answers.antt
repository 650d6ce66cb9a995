use Rattle.linear_solve.proofs.Certifying.{no_store_of_nothing}
use Rattle.linear_solve.proofs.attempt.by_pivots.Goals as goal

pub returns-in-Ok-true : goal.returns-in-Ok-true
returns-in-Ok-true c = no_store_of_nothing c.args.rows.now (c.in-Ok-true.ensures c.in-Ok-true.field-0-test)
