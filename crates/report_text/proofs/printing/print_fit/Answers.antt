use Rattle.report_text.proofs.Spelling.{fit_printed}
use Rattle.report_text.proofs.printing.print_fit.Goals as goal

pub returns : goal.returns
returns c = fit_printed _ _ _ _ _ _ _ c.new-text.ensures.items c.in_ok-push_headed.ensures c.in_ok-push_headed-2.ensures c.in_ok-push_verdict.ensures
