use Rattle.report_text.proofs.Standing.{one_line_met}
use Rattle.report_text.proofs.laws.each_store_meets_one_line.Goals as goal

pub returns : goal.returns
returns c = λ claims plan lines store are. one_line_met claims store plan lines are
