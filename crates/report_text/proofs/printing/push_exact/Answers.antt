use Rattle.std.proofs.lemmas.Result.{on_ok_weaker}
use Rattle.report_text.proofs.Spelling.{partial_added, whole_added}
use Rattle.report_text.proofs.printing.push_exact.Goals as goal

pub returns-in_ok-push_whole-in-Whole : goal.returns-in_ok-push_whole-in-Whole
returns-in_ok-push_whole-in-Whole c =
    on_ok_weaker c.push_section.result (whole_added _ _ _ _ _ _ _ c.in-Whole.is c.in_ok-push_whole-in-Whole.ensures) c.push_section.ensures

pub returns-in_ok-push_partial-in-Partial : goal.returns-in_ok-push_partial-in-Partial
returns-in_ok-push_partial-in-Partial c =
    on_ok_weaker c.push_section-in-Partial.result (partial_added _ _ _ _ _ _ _ _ c.in-Partial.is c.in_ok-push_partial-in-Partial.ensures) c.push_section-in-Partial.ensures
