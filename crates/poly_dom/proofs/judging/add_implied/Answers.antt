use Rattle.std.proofs.Common.{arith}
use Rattle.linear_solve.proofs.Lists.{item_in}
use Rattle.poly_dom.proofs.AddedRows.{implied_more}
use Rattle.poly_dom.proofs.judging.add_implied.Goals as goal
use Rattle.poly_dom.proofs.judging.add_implied.Goals.{then-branch+in_ok-add, else-branch}

pub loop-row-preserved : goal.loop-row-preserved
loop-row-preserved c =
    elim c.if-branch.branch [
      | then-branch+in_ok-add w ↦ rw w.list-is (implied_more c.args.rows.now c.args.given.now _ _ _ c.row-item.result
          (item_in _ _ _ (omega arith) c.row-item.is) (c.in_ok-imply.ensures w.if-branch.true) c.loop-row.invariant w.in_ok-add.ensures)
      | else-branch w ↦ rw w.list-is c.loop-row.invariant
    ]
