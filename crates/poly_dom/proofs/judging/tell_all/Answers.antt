use Rattle.std.proofs.Common.{◌≡◌, Some, All, arith, subst, true}
use Rattle.std.proofs.lemmas.List.{take_all}
use Rattle.linear_cons.proofs.Telling.{settled_row_holds}
use Rattle.linear_cons.specs.Rows.{Meets}
use Rattle.linear_cons.specs.Settling.{settles}
use Rattle.linear_solve.proofs.Lists.{all_more}
use Rattle.poly_dom.proofs.judging.tell_all.Goals as goal

pub loop-row-preserved : goal.loop-row-preserved
loop-row-preserved c store met =
    let told : settles c.args.rows.now c.row-item.result ≡ Some true = cc in
    all_more (Meets store) c.args.more.now c.loop-row.row-index c.row-item.result (omega arith) c.row-item.is (c.loop-row.invariant store met)
    (settled_row_holds c.args.rows.now c.row-item.result store told met)

pub returns : goal.returns
returns c told store met =
    subst (All (Meets store)) (take_all c.loop-row.row-index c.args.more.now (omega arith)) (c.loop-row.invariant store met)
