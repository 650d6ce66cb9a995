-- What a row becomes with a function put in, as a tree holds it, seen as a constraint.
use Rattle.linear_cons.specs.declared.row.RowKind.{RowKind}
use Rattle.linear_cons.specs.declared.row.RowKind.TheVariants.{Always, Never, Row as Kept}
use Rattle.backward_transfer.specs.declared.assigning.MovedRow.{MovedRow}
use Rattle.backward_transfer.specs.declared.assigning.MovedRow.TheVariants.{Always as IsAlways, Never as IsNever, Row as IsRow}

abbrev pub kind_of : MovedRow → RowKind
kind_of IsAlways = Always
kind_of IsNever = Never
kind_of (IsRow row) = Kept row
