use Rattle.std.proofs.Common.{◌≤◌, length, sym, arith, ◌∙◌}
use Rattle.linear_cons.specs.Functions.{complement_of}
use Rattle.linear_cons.proofs.Telling.{found_tells, none_tells}
use Rattle.linear_cons.proofs.settling.oppose.Goals as goal

pub returns-then-refutes : goal.returns-then-refutes
returns-then-refutes c =
    found_tells c.args.rows.now (complement_of c.args.row.now.affine) c.loop-given.given-index c.given-item.result (omega arith) c.given-item.is (sym c.refutes.ensures ∙ c.if-refutes.true)

pub returns : goal.returns
returns c =
    let end : length c.args.rows.now ≤ c.loop-given.given-index = omega arith in
    none_tells c.args.rows.now (complement_of c.args.row.now.affine) c.loop-given.given-index end c.loop-given.invariant
