use Rattle.std.proofs.Common.{◌≤◌, ◌<◌, length, get_or, sym, ap, arith, ◌∙◌}
use Rattle.linear_cons.specs.Functions.{complement_of}
use Rattle.linear_cons.proofs.Telling.{found_tells, none_more, none_tells}
use Rattle.decision_tree.proofs.Gathering.{item_any}
use Rattle.decision_tree.proofs.held.HeldRows.oppose.Goals as goal

pub returns-then-opposes_at : goal.returns-then-opposes_at
returns-then-opposes_at c =
    let rows = c.args.self.now in
    let place = c.loop-place.place in
    let low : place < length rows = (let same = ap length c.rows-place-end.ensures in omega (arith, same)) in
    let given = get_or rows place c.args.row.now in
    found_tells rows (complement_of c.args.row.now.affine) place given low (item_any rows place c.args.row.now given low) (sym (c.opposes_at.ensures c.args.row.now) ∙ c.if-opposes_at.true)

pub loop-place-preserved : goal.loop-place-preserved
loop-place-preserved c =
    let rows = c.args.self.now in
    let place = c.loop-place.place in
    let low : place < length rows = (let same = ap length c.rows-place-end.ensures in omega (arith, same)) in
    let given = get_or rows place c.args.row.now in
    none_more rows (complement_of c.args.row.now.affine) place given low (item_any rows place c.args.row.now given low) c.loop-place.invariant (sym (c.opposes_at.ensures c.args.row.now) ∙ c.if-opposes_at.false)

pub returns : goal.returns
returns c =
    let end : length c.args.self.now ≤ c.loop-place.place = (let same = ap length c.rows-place-end.ensures in omega (arith, same)) in
    none_tells c.args.self.now (complement_of c.args.row.now.affine) c.loop-place.place end c.loop-place.invariant
