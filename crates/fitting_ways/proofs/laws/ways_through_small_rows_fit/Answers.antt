use Rattle.fitting_ways.proofs.Rows.{rows_fit}
use Rattle.fitting_ways.proofs.laws.ways_through_small_rows_fit.Goals as goal

pub returns : goal.returns
returns c = rows_fit
