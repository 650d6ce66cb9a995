use Rattle.std.proofs.Common.{arith, refl}
use Rattle.linear_solve.proofs.Deciding.{no_store_of_opposed}
use Rattle.linear_solve.proofs.Lists.{item_in}
use Rattle.linear_solve.proofs.attempt.glance.Goals as goal

pub returns-then-opposes_one : goal.returns-then-opposes_one
returns-then-opposes_one c =
    let one = c.if-opposes_one.ensures.0 refl in
    no_store_of_opposed c.args.rows.now (record { row = c.row-item.result; other = one.other; row_in = item_in _ _ _ (omega arith) c.row-item.is; other_in = one.other_in; opposed = one.opposed })
