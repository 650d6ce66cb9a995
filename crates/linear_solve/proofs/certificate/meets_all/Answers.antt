use Rattle.std.proofs.Common.{◌≤◌, arith, rules, length}
use Rattle.std.proofs.lemmas.Int.{ints}
use Rattle.linear_cons.specs.declared.row.Row.{Row}
use Rattle.linear_cons.specs.Numbers.{Fits128}
use Rattle.linear_cons.specs.Rows.{PointMeets}
use Rattle.linear_solve.proofs.Lists.{all_end, all_more}
use Rattle.linear_solve.proofs.certificate.meets_all.Goals as goal

pub loop-row-preserved : goal.loop-row-preserved
loop-row-preserved c =
    let form : Fits128 c.in_ok-form.field-0 = search rules in
    let met : PointMeets c.args.point.now.num c.args.point.now.den c.row-item.result = rw (← c.in_ok-form.ensures.exact.1) (omega (arith, ints)) in
    all_more (λ (row : Row). PointMeets c.args.point.now.num c.args.point.now.den row) c.args.rows.now c.loop-row.row-index c.row-item.result (omega arith) c.row-item.is c.loop-row.invariant met

pub returns : goal.returns
returns c told =
    let end : length c.args.rows.now ≤ c.loop-row.row-index = omega arith in
    record {
      positive = let den : Fits128 c.args.point.now.den = search rules in omega (arith, ints);
      meets = all_end (λ (row : Row). PointMeets c.args.point.now.num c.args.point.now.den row) c.args.rows.now c.loop-row.row-index end c.loop-row.invariant;
    }
