use Rattle.std.proofs.Common.{◌≡◌, Some, drop, true}
use Rattle.linear_cons.proofs.Telling.{settled_row_holds}
use Rattle.linear_cons.specs.Rows.{Meets}
use Rattle.linear_cons.specs.Settling.{settles}
use Rattle.linear_cons.specs.declared.row.Row.{Row}
use Rattle.linear_solve.proofs.Lists.{all_of, member_of}
use Rattle.num_domain.specs.Domain.{AllMeet}
use Rattle.poly_dom.specs.Polyhedra.{Has}
use Rattle.poly_dom.proofs.poly.PolyNumDomain.meet_row.Goals as goal

pub returns-in-Some-true-clause-plain : goal.returns-in-Some-true-clause-plain
returns-in-Some-true-clause-plain c place plain store is has =
    let told : settles c.args.self.now.rows.items c.args.row.now ≡ Some true = cc in
    settled_row_holds c.args.self.now.rows.items c.args.row.now store told has.1

pub returns-in-Some-true-clause-met : goal.returns-in-Some-true-clause-met
returns-in-Some-true-clause-met c store is has =
    let told : settles c.args.self.now.rows.items c.args.row.now ≡ Some true = cc in
    settled_row_holds c.args.self.now.rows.items c.args.row.now store told has.1

pub returns-in-Some-true-clause-exact : goal.returns-in-Some-true-clause-exact
returns-in-Some-true-clause-exact c small store is =
    let told : settles c.args.self.now.rows.items c.args.row.now ≡ Some true = cc in
    (λ has. (has, settled_row_holds c.args.self.now.rows.items c.args.row.now store told has.1), λ both. both.0)

pub returns-clause-plain : goal.returns-clause-plain
returns-clause-plain c place plain store is has = c.in_ok-self.ensures.met store has.1

pub returns-clause-met : goal.returns-clause-met
returns-clause-met c store is has = c.in_ok-self.ensures.met store has.1

pub returns-clause-rest : goal.returns-clause-rest
returns-clause-rest c full =
    all_of (λ (row : Row). AllMeet row (Has c.in_ok-self.field-0)) (drop 1 c.args.self.now.rows.items)
    (λ row member store is has. member_of (λ r. Meets store r) (drop 1 c.args.self.now.rows.items) row
    (c.in_ok-self.ensures.rest full store has.1) member)
