use Rattle.report_text.proofs.StandIns.{refined_line_met}
use Rattle.report_text.proofs.laws.refined_lines_are_met_once.Goals as goal

pub returns : goal.returns
returns c = λ claims first ranked store lines refined are stand. refined_line_met ranked store lines refined stand claims first are
