use Rattle.std.proofs.Common.{ap, refl}
use Rattle.linear_cons.specs.Rows.{complement}
use Rattle.linear_cons.specs.declared.row.Row.{Row}
use Rattle.linear_cons.specs.declared.row.RowKind.TheVariants.{Row as Kept}
use Rattle.linear_cons.proofs.RowLaws.{row_same}
use Rattle.backward_transfer.proofs.ranging.negated.Goals as goal

pub returns-in_ok-complement-in-Row-clause-exact : goal.returns-in_ok-complement-in-Row-clause-exact
returns-in_ok-complement-in-Row-clause-exact c =
    rw c.in-Row.is (c.in_ok-complement-in-Row.ensures.fits.0 refl, ap (λ (r : Row). Kept r) (row_same c.in_ok-complement-in-Row.complement (complement c.in-Row.row) c.in_ok-complement-in-Row.ensures.complement))
