use Rattle.std.proofs.Common.{◌≤◌, length, sym, arith, ◌∙◌}
use Rattle.linear_cons.proofs.Telling.{found_tells, none_tells}
use Rattle.linear_cons.proofs.settling.tell.Goals as goal

pub returns-then-tells : goal.returns-then-tells
returns-then-tells c =
    found_tells c.args.rows.now c.args.row.now.affine c.loop-given.given-index c.given-item.result (omega arith) c.given-item.is (sym c.tells.ensures ∙ c.if-tells.true)

pub returns : goal.returns
returns c =
    let end : length c.args.rows.now ≤ c.loop-given.given-index = omega arith in
    none_tells c.args.rows.now c.args.row.now.affine c.loop-given.given-index end c.loop-given.invariant
