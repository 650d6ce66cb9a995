use Rattle.std.proofs.lemmas.Result.{on_ok_weaker}
use Rattle.report_text.proofs.Spelling.{headed_added}
use Rattle.report_text.proofs.printing.push_headed.Goals as goal

pub returns : goal.returns
returns c = on_ok_weaker c.push_section.result (headed_added _ _ _ _ _ _ c.in_ok-push_ended.ensures) c.push_section.ensures
