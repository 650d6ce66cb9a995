use Rattle.std.proofs.Common.{◌≡◌, suc, ◌+◌, ◌<◌, length, ap, arith}
use Rattle.shared_trees.proofs.Left.{rows_left, stage_left}
use Rattle.shared_trees.proofs.forest.Forest.+asking.Goals as goal

pub ask_next-ask_next-requires : goal.ask_next-ask_next-requires
unfolding rows_left
ask_next-ask_next-requires g t c κs within =
    let left = stage_left c.args.stage (rows_left c.args.test.now.fails.now) in
    let here : rows_left c.args.rest.now ≡ suc (length c.in-Some.rows.now + rows_left c.in-Some.others.now) = ap rows_left c.in-Some.ensures.cases.0 in
    let low : rows_left c.in-Some.others.now + 1 + left < rows_left c.args.rest.now + 1 + left = omega (arith, here) in
    let step : rows_left c.in-Some.others.now + 1 + left < t = rw (← c.decreases) low in
    (step, within)

pub ask_next-ask_rows-requires : goal.ask_next-ask_rows-requires
unfolding rows_left
ask_next-ask_rows-requires g t c κs within =
    let left = stage_left c.args.stage (rows_left c.args.test.now.fails.now) in
    let here : rows_left c.args.rest.now ≡ suc (length c.in-Some.rows.now + rows_left c.in-Some.others.now) = ap rows_left c.in-Some.ensures.cases.0 in
    let long = ap length c.items.ensures in
    let low : length c.items.result.now + rows_left c.in-Some.others.now + 1 + left < rows_left c.args.rest.now + 1 + left = omega (arith, here, long) in
    let step : length c.items.result.now + rows_left c.in-Some.others.now + 1 + left < t = rw (← c.decreases) low in
    (step, within)
