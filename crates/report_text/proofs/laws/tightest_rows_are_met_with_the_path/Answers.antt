use Rattle.report_text.proofs.Tightening.{tightest_met}
use Rattle.report_text.proofs.laws.tightest_rows_are_met_with_the_path.Goals as goal

pub returns : goal.returns
returns c = tightest_met
