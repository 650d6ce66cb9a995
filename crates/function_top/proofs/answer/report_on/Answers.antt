use Rattle.std.proofs.Common.{Some, refl}
use Rattle.command_words.specs.Order.{task_of}
use Rattle.function_top.proofs.Framed.{answer_too, text_too}
use Rattle.function_top.proofs.Headline.{due_known, due_told, due_true}
use Rattle.function_top.proofs.Saying.{due_says}
use Rattle.function_top.proofs.answer.report_on.Goals as goal

pub returns-clause-headline : goal.returns-clause-headline
returns-clause-headline g c subject is line condition claim whole spells =
    due_true c.texts_are_known.ensures (task_of c.args.query.now) c.args.text.now subject is c.in_ok-due.ensures.due line whole condition claim spells

pub returns-clause-form : goal.returns-clause-form
returns-clause-form g c =
    due_known c.texts_are_known.ensures (task_of c.args.query.now) (Some c.args.text.now) c.args.text.now refl c.in_ok-due.ensures.due

pub returns-clause-says : goal.returns-clause-says
returns-clause-says g c report subject is =
    due_says c.texts_are_known.ensures (task_of c.args.query.now) c.args.text.now subject is report c.in_ok-due.ensures.due

pub returns-clause-answer : goal.returns-clause-answer
returns-clause-answer g c subject asked input is one given line claim whole tells =
    due_told c.texts_are_known.ensures (task_of c.args.query.now) c.args.text.now subject is c.in_ok-due.ensures.due one given line whole claim tells

pub returns-clause-framed : goal.returns-clause-framed
returns-clause-framed g c subject unit is unit_is =
    let known = c.texts_are_known.ensures in
    let task = task_of c.args.query.now in
    text_too known task c.args.text.now subject is unit unit_is c.in_ok-due.due.bytes.items
    (λ line condition claim whole spells. due_true known task c.args.text.now subject is c.in_ok-due.ensures.due line whole condition claim spells)

pub returns-clause-framed_answer : goal.returns-clause-framed_answer
returns-clause-framed_answer g c subject unit asked input is unit_is one given =
    let known = c.texts_are_known.ensures in
    let task = task_of c.args.query.now in
    answer_too known task c.args.text.now subject is unit unit_is input c.in_ok-due.due.bytes.items
    (λ line claim whole tells. due_told known task c.args.text.now subject is c.in_ok-due.ensures.due one given line whole claim tells)
