use Rattle.function_top.proofs.Refusing.{long_text, whole_text}
use Rattle.function_top.proofs.top.fit_answer.Goals as goal

pub returns-in_ok-too_long-in-TooLong-clause-due : goal.returns-in_ok-too_long-in-TooLong-clause-due
returns-in_ok-too_long-in-TooLong-clause-due g c =
    let ends = rw c.in-TooLong.is at c.in_ok-text.ensures.ends in
    let read = long_text 65536 _ _ ends.0 ends.1 in
    (read.0, read.1, ends.2, c.in_ok-too_long-in-TooLong.ensures.fit_due read.0 read.2)

pub returns-in_ok-fit_report_on-in-Text-clause-due : goal.returns-in_ok-fit_report_on-in-Text-clause-due
returns-in_ok-fit_report_on-in-Text-clause-due g c =
    let ends = rw c.in-Text.is at c.in_ok-text.ensures.ends in
    let due = c.in_ok-fit_report_on-in-Text.ensures.due in
    (c.in-Text.text.items, whole_text _ _ c.in-Text.text.items ends.1, ends.3, rw c.deref.ensures.value at due)
