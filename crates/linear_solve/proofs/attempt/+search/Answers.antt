use Rattle.std.proofs.Common.{arith, ap, List, refl}
use Rattle.linear_cons.specs.declared.row.Row.{Row}
use Rattle.linear_solve.specs.Systems.{occurring}
use Rattle.linear_solve.proofs.Deciding.{no_store_of_opposed}
use Rattle.linear_solve.proofs.Extending.{no_store_of_left, no_store_of_never}
use Rattle.linear_solve.proofs.Solved.{fewer_occur}
use Rattle.linear_solve.proofs.attempt.+search.Goals as goal

pub returns-then-meets_opposed : goal.returns-then-meets_opposed
returns-then-meets_opposed t c = no_store_of_opposed c.args.rows.now (c.if-meets_opposed.ensures refl)

pub search-requires : goal.search-requires
search-requires t c =
    let eliminated = rw c.in-Ok-Some.field-0-is at c.in-Ok-Some.ensures.left in
    let fewer = fewer_occur c.args.rows.now c.in-Some.place c.in-Ok-Some.left.items c.in-Some.ensures.0 c.in-Some.ensures.1 eliminated in
    let same = ap (λ (rows : List Row). occurring rows) c.deref.ensures.value in
    let measure = c.decreases in
    (omega (arith, fewer, same, measure), tt)

pub returns-in-Some-Nothing : goal.returns-in-Some-Nothing
returns-in-Some-Nothing t c =
    let eliminated = rw c.in-Ok-Some.field-0-is at c.in-Ok-Some.ensures.left in
    let none = rw (c.in-Some-Nothing.is, c.in-Some-Nothing.field-0-is, c.deref.ensures.value) at c.in_ok-search-in-Ok-Some.ensures in
    no_store_of_left c.args.rows.now c.in-Some.place c.in-Ok-Some.left.items eliminated none

pub returns-in-Ok-None : goal.returns-in-Ok-None
returns-in-Ok-None t c =
    no_store_of_never c.args.rows.now c.in-Some.place (rw c.in-Ok-None.field-0-is at c.in-Ok-None.ensures.left)
