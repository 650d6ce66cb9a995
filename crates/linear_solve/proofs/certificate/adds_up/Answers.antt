use Rattle.std.proofs.Common.{arith, ap, ◌∙◌}
use Rattle.std.proofs.lemmas.Int.{ints}
use Rattle.linear_cons.specs.declared.affine.Affine.{Affine}
use Rattle.linear_cons.specs.declared.row.Row.{Row}
use Rattle.linear_cons.specs.Functions.{sum_of}
use Rattle.linear_cons.specs.Rows.{PointMeets}
use Rattle.linear_solve.proofs.Certifying.{added_multiple, constant_sum, nothing_of_sum}
use Rattle.linear_solve.proofs.Lists.{item_in, member_of}
use Rattle.linear_solve.proofs.certificate.adds_up.Goals as goal

pub loop-multiple-init : goal.loop-multiple-init
loop-multiple-init c num den positive met = constant_sum c.constant-sum.result num den c.constant-sum.ensures

pub loop-multiple-preserved : goal.loop-multiple-preserved
loop-multiple-preserved c num den positive met =
    let look = c.in-Some.ensures.lookup in
    let row_met : PointMeets num den c.in-Some.row.now = member_of (λ (row : Row). PointMeets num den row) c.args.rows.now c.in-Some.row.now met (item_in _ _ _ look.3.0 look.1) in
    let old = c.loop-multiple.invariant num den positive met in
    let is = c.in_ok-sum-in-Some.ensures.exact.1 ∙ ap (λ (t : Affine). sum_of c.loop-multiple.sum t) c.in_ok-scale-in-Some.ensures.exact.1 in
    added_multiple c.loop-multiple.sum c.in_ok-sum-in-Some.sum c.in-Some.row.now _ num den is (omega (arith, ints)) old row_met

pub returns : goal.returns
returns c told = nothing_of_sum c.loop-multiple.sum c.args.rows.now (c.is_negative_constant.ensures told) c.loop-multiple.invariant
