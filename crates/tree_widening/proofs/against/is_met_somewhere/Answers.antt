use Rattle.tree_widening.proofs.Judging.{answer_of_way, may_be_met}
use Rattle.tree_widening.proofs.against.is_met_somewhere.Goals as goal

pub returns-in-Empty : goal.returns-in-Empty
returns-in-Empty c =
    let answer = answer_of_way c.args.trail.now c.rows-rows.result.now c.in_ok-decide_tightest.field-0 c.rows-rows.ensures c.in_ok-decide_tightest.ensures in
    rw c.in-Empty.is at answer

pub returns-in-Point : goal.returns-in-Point
returns-in-Point c =
    let answer = answer_of_way c.args.trail.now c.rows-rows.result.now c.in_ok-decide_tightest.field-0 c.rows-rows.ensures c.in_ok-decide_tightest.ensures in
    may_be_met c.args.trail.now c.in_ok-decide_tightest.field-0 answer (rw c.in-Point.is (λ empty. empty))

pub returns-in-Wide : goal.returns-in-Wide
returns-in-Wide c =
    let answer = answer_of_way c.args.trail.now c.rows-rows.result.now c.in_ok-decide_tightest.field-0 c.rows-rows.ensures c.in_ok-decide_tightest.ensures in
    may_be_met c.args.trail.now c.in_ok-decide_tightest.field-0 answer (rw c.in-Wide.is (λ empty. empty))

pub returns-in-Rows : goal.returns-in-Rows
returns-in-Rows c =
    let answer = answer_of_way c.args.trail.now c.rows-rows.result.now c.in_ok-decide_tightest.field-0 c.rows-rows.ensures c.in_ok-decide_tightest.ensures in
    may_be_met c.args.trail.now c.in_ok-decide_tightest.field-0 answer (rw c.in-Rows.is (λ empty. empty))
