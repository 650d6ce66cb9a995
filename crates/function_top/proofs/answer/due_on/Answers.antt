use Rattle.std.proofs.Common.{rules, arith}
use Rattle.ctl_rounds.proofs.Asking.{unasked}
use Rattle.command_words.specs.Order.{task_of}
use Rattle.function_top.specs.Output.{refused}
use Rattle.function_top.proofs.answer.due_on.Goals as goal

pub due-requires-clause-over : goal.due-requires-clause-over
due-requires-clause-over g c = c.in-Ok.ensures.asked.over

pub returns-in_ok-due-in-Ok-clause-due : goal.returns-in_ok-due-in-Ok-clause-due
returns-in_ok-due-in-Ok-clause-due g c =
    c.in_ok-due-in-Ok.ensures.due (task_of c.args.query.now) c.args.text.now c.in-Ok.ensures.asked

pub returns-in_ok-refused-in-Err-clause-due : goal.returns-in_ok-refused-in-Err-clause-due
returns-in_ok-refused-in-Err-clause-due g c =
    refused c.in-Err.refusal c.in-Err.ensures.refused c.in_ok-refused-in-Err.ensures.says c.in_ok-refused-in-Err.ensures.unasked

pub returns-in_ok-refused-in-Err-clause-asked : goal.returns-in_ok-refused-in-Err-clause-asked
returns-in_ok-refused-in-Err-clause-asked g c = (0, omega (arith), unasked (λ a. (goal.Adviser-dyn g (a.vtable, a.value)).asked_of a.value) c.args.advisers.now.items, c.in_ok-refused-in-Err.ensures.unasked)

pub returns-in_err-refused-in-Err-clause-asked : goal.returns-in_err-refused-in-Err-clause-asked
returns-in_err-refused-in-Err-clause-asked g c = (0, omega (arith), unasked (λ a. (goal.Adviser-dyn g (a.vtable, a.value)).asked_of a.value) c.args.advisers.now.items, search rules)
