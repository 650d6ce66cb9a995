use Rattle.std.proofs.Common.{arith}
use Rattle.std.proofs.lemmas.Grind.{common_steps}
use Rattle.outside.proofs.Written.{more_taken, front_taken}
use Rattle.outside.proofs.writing.write_all.Goals as goal

pub loop-rest-preserved : goal.loop-rest-preserved
loop-rest-preserved g c =
    rw c.split_at.ensures.back (more_taken _ _ c.in-Took.count c.loop-rest.invariant c.in-Took.ensures.takes.2 c.in-Took.ensures.takes.3)

pub returns-in-Failed-clause-front : goal.returns-in-Failed-clause-front
returns-in-Failed-clause-front g c = front_taken _ c.loop-rest.invariant c.in-Failed.ensures.takes.0

pub returns-in-Failed-clause-all : goal.returns-in-Failed-clause-all
returns-in-Failed-clause-all g c = grind (arith, common_steps)

pub returns-in-Failed-clause-stays : goal.returns-in-Failed-clause-stays
returns-in-Failed-clause-stays g c = grind (arith, common_steps)
