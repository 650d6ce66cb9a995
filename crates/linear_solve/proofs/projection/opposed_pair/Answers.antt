use Rattle.std.proofs.Common.{arith}
use Rattle.std.proofs.lemmas.Int.{ints}
use Rattle.linear_solve.proofs.projection.opposed_pair.Goals as goal

pub returns-clause-nothing : goal.returns-clause-nothing
returns-clause-nothing c num den positive met =
    let second = c.in_ok-add_row-2.ensures.meets num den positive met in
    let first = c.in_ok-add_row.ensures.meets num den positive second.0 in
    let one = c.less_one.ensures.form num den in
    let minus = c.negative.ensures.form num den in
    let above = first.1 in
    let below = second.1 in
    omega (arith, ints, one, minus, above, below)
