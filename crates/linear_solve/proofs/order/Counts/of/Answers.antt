use Rattle.std.proofs.Common.{◌≡◌, ◌∙◌, ◌+◌, ap, arith, length, sym, take}
use Rattle.std.proofs.lemmas.List.{length-take-le}
use Rattle.linear_cons.specs.Functions.{coefficient}
use Rattle.linear_solve.specs.Elimination.{one_above, one_below}
use Rattle.linear_solve.proofs.Counted.{lowers_fit, uppers_fit}
use Rattle.linear_solve.proofs.Growing.{lowers_more, uppers_more}
use Rattle.linear_solve.proofs.order.Counts.of.Goals as goal

pub add-requires : goal.add-requires
add-requires c =
    let seen = take c.loop-row.row-index c.args.rows.now in
    let long : length seen ≡ c.loop-row.row-index = length-take-le c.loop-row.row-index c.args.rows.now (omega arith) in
    record {
      room = (
        λ place low. (let is = c.loop-row.invariant.lowers place low in let few = lowers_fit place seen in omega (arith, is, few, long)),
        λ place low. (let is = c.loop-row.invariant.uppers place low in let few = uppers_fit place seen in omega (arith, is, few, long)),
      );
    }

pub loop-row-preserved : goal.loop-row-preserved
loop-row-preserved c = record {
  lowers = λ place low. c.add.ensures.lowers place low
      ∙ ap (λ t. t + one_above (coefficient c.row-item.result.affine place)) (c.loop-row.invariant.lowers place low)
      ∙ sym (lowers_more place c.args.rows.now c.loop-row.row-index c.row-item.result (omega arith) c.row-item.is);
  uppers = λ place low. c.add.ensures.uppers place low
      ∙ ap (λ t. t + one_below (coefficient c.row-item.result.affine place)) (c.loop-row.invariant.uppers place low)
      ∙ sym (uppers_more place c.args.rows.now c.loop-row.row-index c.row-item.result (omega arith) c.row-item.is);
}
