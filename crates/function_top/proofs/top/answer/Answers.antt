use Rattle.std.proofs.Common.{rules, length, arith}
use Rattle.ctl_rounds.proofs.Asking.{unasked}
use Rattle.command_words.specs.Order.{task_of}
use Rattle.function_top.proofs.Refusing.{long_text, whole_text}
use Rattle.function_top.proofs.top.answer.Goals as goal

pub returns-in_err-text-clause-asked : goal.returns-in_err-text-clause-asked
returns-in_err-text-clause-asked g c = (0, omega (arith), unasked (λ a. (goal.Adviser-dyn g (a.vtable, a.value)).asked_of a.value) c.args.advisers.now.items, search rules)

pub returns-in_err-too_long-in-TooLong-clause-asked : goal.returns-in_err-too_long-in-TooLong-clause-asked
returns-in_err-too_long-in-TooLong-clause-asked g c = (0, omega (arith), unasked (λ a. (goal.Adviser-dyn g (a.vtable, a.value)).asked_of a.value) c.args.advisers.now.items, search rules)

pub returns-in_ok-too_long-in-TooLong-clause-asked : goal.returns-in_ok-too_long-in-TooLong-clause-asked
returns-in_ok-too_long-in-TooLong-clause-asked g c = (0, omega (arith), unasked (λ a. (goal.Adviser-dyn g (a.vtable, a.value)).asked_of a.value) c.args.advisers.now.items, c.in_ok-too_long-in-TooLong.ensures.unasked)

pub returns-in-Failed-clause-asked : goal.returns-in-Failed-clause-asked
returns-in-Failed-clause-asked g c = (0, omega (arith), unasked (λ a. (goal.Adviser-dyn g (a.vtable, a.value)).asked_of a.value) c.args.advisers.now.items, tt)

pub returns-in_ok-too_long-in-TooLong-clause-due : goal.returns-in_ok-too_long-in-TooLong-clause-due
returns-in_ok-too_long-in-TooLong-clause-due g c =
    let ends = rw c.in-TooLong.is at c.in_ok-text.ensures.ends in
    let read = long_text 65536 _ _ ends.0 ends.1 in
    (read.0, read.1, ends.2, c.in_ok-too_long-in-TooLong.ensures.due (task_of c.args.query.now) read.0 (length c.args.advisers.now.items) read.2)

pub returns-in_ok-report_on-in-Text-clause-due : goal.returns-in_ok-report_on-in-Text-clause-due
returns-in_ok-report_on-in-Text-clause-due g c =
    let ends = rw c.in-Text.is at c.in_ok-text.ensures.ends in
    let due = c.in_ok-report_on-in-Text.ensures.due in
    (c.in-Text.text.items, whole_text _ _ c.in-Text.text.items ends.1, ends.3, rw c.deref.ensures.value at due)
