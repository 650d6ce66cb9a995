use Rattle.line_text.proofs.Rows.{met_as_condition}
use Rattle.line_text.proofs.laws.rows_are_met_as_conditions.Goals as goal

pub returns : goal.returns
returns c = met_as_condition
