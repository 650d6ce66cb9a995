use Rattle.std.proofs.Common.{◌≡◌, get_or, ap, rules}
use Rattle.std.proofs.lemmas.Int.{to_z-of_z}
use Rattle.linear_cons.specs.Numbers.{Fits128}
use Rattle.decision_tree.proofs.Gathering.{back_tightened, took_place}
use Rattle.decision_tree.proofs.trail.tighten.Goals as goal

pub returns-clause-tightened : goal.returns-clause-tightened
returns-clause-tightened c =
    let held = c.args.held.now in
    let place = c.in-Some.place in
    let given = get_or c.rows.result.now place c.index-rows-place.result in
    let is : given ≡ get_or held place c.index-rows-place.result = ap (λ rows. get_or rows place c.index-rows-place.result) c.rows.ensures in
    let own : Fits128 given.affine.constant = search rules in
    let other : Fits128 c.args.row.now.affine.constant = search rules in
    let more = simp to_z-of_z at c.if-looser-row.false in
    let put = simp to_z-of_z at c.set_constant.ensures in
    let found = c.in-Some.ensures in
    let looser = ap (λ row. row.affine.constant) is in
    simp to_z-of_z (rw put (record {
      tighter = took_place held c.args.row.now given.affine.constant place c.index-rows-place.result looser more found.1 (found.2 c.index-rows-place.result);
      back = back_tightened held place c.args.row.now.affine.constant given.affine.constant c.index-rows-place.result looser;
    }))
