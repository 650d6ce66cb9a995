use Rattle.report_text.proofs.Spelling.{line_spelled}
use Rattle.report_text.proofs.printing.text_of.Goals as goal

pub returns : goal.returns
returns c =
    let rows = rw c.items.ensures at c.in_ok-rows.ensures in
    let written = rw c.deref.ensures.value at c.in_ok-push_line.ensures.text in
    line_spelled _ _ _ _ _ c.requires rows c.new-text.ensures.items written
