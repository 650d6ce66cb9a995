use Rattle.std.proofs.Common.{◌≡◌, Some, true}
use Rattle.linear_cons.proofs.Telling.{settled_row_holds}
use Rattle.linear_cons.specs.Settling.{settles}
use Rattle.poly_dom.proofs.poly.PolyNumDomain.implies.Goals as goal

pub returns-in-Some-true : goal.returns-in-Some-true
returns-in-Some-true c told store long has =
    let settled : settles c.args.self.now.rows.items c.args.row.now ≡ Some true = cc in
    settled_row_holds c.args.self.now.rows.items c.args.row.now store settled has.1
