use Rattle.std.proofs.Common.{subst}
use Rattle.linear_cons.specs.Rows.{IsRowOf}
use Rattle.linear_cons.specs.declared.row.RowKind.{RowKind}
use Rattle.linear_solve.proofs.Nothing.{added_meets}
use Rattle.linear_solve.proofs.projection.add_row.Goals as goal

pub returns-in_ok-push-clause-meets : goal.returns-in_ok-push-clause-meets
returns-in_ok-push-clause-meets c =
    let normal = subst (λ (t : RowKind). IsRowOf c.args.a t) c.in-Row.is c.of.ensures.normal in
    added_meets c.args.rows.now.items c.push.new.self.items c.in-Row.row c.args.a c.in_ok-push.ensures.items normal
