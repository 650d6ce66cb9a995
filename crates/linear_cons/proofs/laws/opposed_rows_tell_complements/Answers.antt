use Rattle.linear_cons.proofs.Telling.{both_told, opposed_told}
use Rattle.linear_cons.proofs.laws.opposed_rows_tell_complements.Goals as goal

pub returns : goal.returns
returns c = record { opposed = opposed_told; both = both_told }
