use Rattle.linear_cons.proofs.Telling.{settled_row_fails, settled_row_holds}
use Rattle.linear_cons.proofs.laws.settled_rows_hold_or_fail.Goals as goal

pub returns : goal.returns
returns c = record { holds = settled_row_holds; fails = settled_row_fails }
