use Rattle.std.proofs.Common.{arith}
use Rattle.linear_cons.specs.Rows.{Meets}
use Rattle.linear_solve.proofs.Lists.{item_in, member_of}
use Rattle.poly_dom.proofs.Turning.{after_more}
use Rattle.poly_dom.proofs.carrying.add_turned.Goals as goal
use Rattle.poly_dom.proofs.carrying.add_turned.Goals.{then-row-place-ne0+in-Some+in_ok-add, then-row-place-ne0+in_default, else-row-place-ne0}

pub loop-row-preserved : goal.loop-row-preserved
loop-row-preserved c =
    let member = item_in c.args.rows.now _ _ (omega arith) c.row-item.is in
    elim c.if-row-place-ne0.branch [
      | then-row-place-ne0+in-Some+in_ok-add w ↦ rw w.list-is (after_more c.args.place c.args.value.now c.args.rows.now _ _ _ w.in-Some.turned
          (λ store z is covers met. w.in-Some.ensures store z is covers
          (member_of (λ r. Meets store r) c.args.rows.now c.row-item.result met member)) c.loop-row.invariant w.in_ok-add.ensures)
      | then-row-place-ne0+in_default w ↦ rw w.list-is c.loop-row.invariant
      | else-row-place-ne0 w ↦ rw w.list-is c.loop-row.invariant
    ]
