use Rattle.std.proofs.Common.{◌<◌, length, arith}
use Rattle.linear_forms.proofs.PairLists.{pairs_step}
use Rattle.linear_forms.proofs.conjunction.add_pairs.Goals as goal

pub loop-rows-preserved : goal.loop-rows-preserved
loop-rows-preserved c =
    let low : c.loop-rows.rows-index < length c.args.first.now = omega arith in
    pairs_step c.args.first.now c.args.second.now c.loop-rows.rows-index c.rows-item.result _ _ _ low c.rows-item.is c.loop-rows.invariant c.in_ok-add_with_each.ensures
