use Rattle.std.proofs.Common.{◌≡◌, ◌∙◌, ℕ, List, Some, length, map, ap, refl, sym, subst, arith, Bor}
use Rattle.std.proofs.lemmas.List.{length-map}
use Rattle.ctl_rounds.proofs.Asking.{unasked}
use Rattle.ctl_rounds.specs.Asked.{RoseBy}
use Rattle.command_words.specs.Order.{analysis, demo, fit, task_of}
use Rattle.function_top.specs.declared.status.Status.TheVariants.{AllInputs}
use Rattle.function_top.specs.Output.{IsDueOn}
use Rattle.function_top.proofs.FitReports.{fit_turns}
use Rattle.function_top.proofs.Reading.{fitted, once, refused, served, shown}
use Rattle.function_top.proofs.Running.{keeps_itself, numbers_rose, run_fit_unread, run_out, run_refused, run_settled, run_unread}
use Rattle.function_top.proofs.top.run.Goals as goal

-- the words as texts
abbrev texts : List (Bor (List ℕ)) → List (List ℕ)
texts words = map (λ word. word.now) words

-- how often the advisers were asked, as many numbers as there are advisers
asked_length : {A : Type 0} (asked : A → ℕ) (items : List A) → length items ≡ length (map asked items)
asked_length asked items = sym (length-map items asked)

pub demo-requires-clause-few : goal.demo-requires-clause-few
demo-requires-clause-few g c =
    (shown (texts c.args.words.now) c.in-Ok-Some-Demo.field-0 c.in-Ok-Some-Demo.ensures c.in-Ok-Some-Demo.number
    (c.in-Ok-Some-Demo.field-0-is ∙ ap Some c.in-Ok-Some-Demo.field-0-0-is)).1.2.few

pub returns-in-Ok-Some-clause-run : goal.returns-in-Ok-Some-clause-run
returns-in-Ok-Some-clause-run g c =
    let words = texts c.args.words.now in
    let order = c.in-Ok-Some-Analysis in
    let due = rw c.in-Ok-Some.field-0-is at c.in-Ok-Some.ensures.due in
    let asked = rw c.in-Ok-Some.field-0-is at c.in-Ok-Some.ensures.asked in
    let rose = subst (λ times. RoseBy (λ a. (goal.Adviser-dyn g (a.vtable, a.value)).asked_of a.value) times c.args.advisers.now.items c.answer.new.advisers.items) (sym asked.3) asked.2 in
    run_settled words _ c.texts_are_known.ensures (once words order.field-0 order.ensures) c.in-Ok-Some.due.status c.settle.result c.in-Ok-Some.due.bytes.items
    (record {
      request = analysis (task_of order.query);
      asked = served words order.field-0 order.ensures order.query (order.field-0-is ∙ ap Some order.field-0-0-is);
      faultless = due.2;
      turns = c.in-Ok-Some.due.turns;
      due = (
        due.0,
        due.1,
        subst (λ (n : ℕ). IsDueOn (task_of order.query) due.0 c.in-Ok-Some.due.status n c.in-Ok-Some.due.turns c.in-Ok-Some.due.bytes.items)
            (asked_length _ c.args.advisers.now.items) due.3,
      );
      rose = numbers_rose _ _ _ _ rose;
    }) (rw c.deref.ensures.value at c.settle.ensures.settles)

pub returns-in-Ok-Some-clause-unread : goal.returns-in-Ok-Some-clause-unread
returns-in-Ok-Some-clause-unread g c = λ none no_fit.
    let order = c.in-Ok-Some-Analysis in
    absurd (none (task_of order.query) (served (texts c.args.words.now) order.field-0 order.ensures order.query (order.field-0-is ∙ ap Some order.field-0-0-is)))

pub returns-in-Ok-None-answer-clause-run : goal.returns-in-Ok-None-answer-clause-run
returns-in-Ok-None-answer-clause-run g c =
    let words = texts c.args.words.now in
    let order = c.in-Ok-Some-Analysis in
    let rose = rw c.in-Ok-None-answer.field-0-is at c.in-Ok-None-answer.ensures.due in
    run_unread words _ c.texts_are_known.ensures (once words order.field-0 order.ensures) (task_of order.query)
    (served words order.field-0 order.ensures order.query (order.field-0-is ∙ ap Some order.field-0-0-is)) refl (rose, keeps_itself _)

pub returns-in-Ok-None-answer-clause-unread : goal.returns-in-Ok-None-answer-clause-unread
returns-in-Ok-None-answer-clause-unread g c = λ none no_fit.
    let order = c.in-Ok-Some-Analysis in
    absurd (none (task_of order.query) (served (texts c.args.words.now) order.field-0 order.ensures order.query (order.field-0-is ∙ ap Some order.field-0-0-is)))

pub returns-in-Err-answer-clause-run : goal.returns-in-Err-answer-clause-run
returns-in-Err-answer-clause-run g c = run_out (texts c.args.words.now) _ c.texts_are_known.ensures refl (c.in-Err-answer.ensures.stays, keeps_itself _)

pub returns-in-Err-answer-clause-unread : goal.returns-in-Err-answer-clause-unread
returns-in-Err-answer-clause-unread g c = λ none no_fit.
    let order = c.in-Ok-Some-Analysis in
    absurd (none (task_of order.query) (served (texts c.args.words.now) order.field-0 order.ensures order.query (order.field-0-is ∙ ap Some order.field-0-0-is)))

pub returns-in-Ok-clause-run : goal.returns-in-Ok-clause-run
returns-in-Ok-clause-run g c =
    let words = texts c.args.words.now in
    let order = c.in-Ok-Some-Demo in
    let asked = c.in-Ok.ensures.asked in
    let rose = subst (λ times. RoseBy (λ a. (goal.Adviser-dyn g (a.vtable, a.value)).asked_of a.value) times c.args.advisers.now.items c.demo.new.advisers.items) (sym asked.3) asked.2 in
    let settled = rw c.deref-in-Ok.ensures.value at c.settle-in-Ok.ensures.settles in
    run_settled words _ c.texts_are_known.ensures (once words order.field-0 order.ensures) AllInputs c.settle-in-Ok.result c.in-Ok.due.bytes.items
    (record {
      request = demo order.number;
      asked = shown words order.field-0 order.ensures order.number (order.field-0-is ∙ ap Some order.field-0-0-is);
      faultless = refl;
      turns = c.in-Ok.due.turns;
      due = (refl, c.in-Ok.ensures.due);
      rose = numbers_rose _ _ _ _ rose;
    }) (rw c.in-Ok.ensures.status at settled)

pub returns-in-Err-demo-clause-run : goal.returns-in-Err-demo-clause-run
returns-in-Err-demo-clause-run g c = run_out (texts c.args.words.now) _ c.texts_are_known.ensures refl (refl, keeps_itself _)

pub returns-in-Ok-None-clause-run : goal.returns-in-Ok-None-clause-run
returns-in-Ok-None-clause-run g c =
    let words = texts c.args.words.now in
    run_refused words _ (refused words c.in-Ok-None.field-0 c.in-Ok-None.ensures c.in-Ok-None.field-0-is) c.settle-in-Ok-None.result
    (rw c.usage.ensures at c.settle-in-Ok-None.ensures.settles)

pub returns-in-Ok-None-clause-asked : goal.returns-in-Ok-None-clause-asked
returns-in-Ok-None-clause-asked g c = (0, omega (arith), unasked (λ a. (goal.Adviser-dyn g (a.vtable, a.value)).asked_of a.value) c.args.advisers.now.items)

pub returns-in-Err-clause-run : goal.returns-in-Err-clause-run
returns-in-Err-clause-run g c = run_out (texts c.args.words.now) _ c.texts_are_known.ensures refl (refl, keeps_itself _)

pub returns-in-Err-clause-asked : goal.returns-in-Err-clause-asked
returns-in-Err-clause-asked g c = (0, omega (arith), unasked (λ a. (goal.Adviser-dyn g (a.vtable, a.value)).asked_of a.value) c.args.advisers.now.items)

-- ---- where it is asked what fits

pub returns-in-Ok-Some-fit_answer-clause-run : goal.returns-in-Ok-Some-fit_answer-clause-run
returns-in-Ok-Some-fit_answer-clause-run g c =
    let words = texts c.args.words.now in
    let order = c.in-Ok-Some-Fit in
    let due = rw c.in-Ok-Some-fit_answer.field-0-is at c.in-Ok-Some-fit_answer.ensures.due in
    run_settled words _ c.texts_are_known.ensures (once words order.field-0 order.ensures) c.in-Ok-Some-fit_answer.due.status c.settle-in-Ok-Some-fit_answer.result
    c.in-Ok-Some-fit_answer.due.bytes.items
    (record {
      request = fit order.domain;
      asked = fitted words order.field-0 order.ensures order.domain (order.field-0-is ∙ ap Some order.field-0-0-is);
      faultless = due.2;
      turns = c.in-Ok-Some-fit_answer.due.turns;
      due = (due.0, due.1, due.3);
      rose = numbers_rose _ _ _ _ (subst (λ times. RoseBy (λ a. (goal.Adviser-dyn g (a.vtable, a.value)).asked_of a.value) times c.args.advisers.now.items c.args.advisers.now.items)
          (sym (fit_turns due.3)) (unasked (λ a. (goal.Adviser-dyn g (a.vtable, a.value)).asked_of a.value) c.args.advisers.now.items));
    }) (rw c.deref-in-Ok-Some-fit_answer.ensures.value at c.settle-in-Ok-Some-fit_answer.ensures.settles)

pub returns-in-Ok-None-fit_answer-clause-run : goal.returns-in-Ok-None-fit_answer-clause-run
returns-in-Ok-None-fit_answer-clause-run g c =
    let words = texts c.args.words.now in
    let order = c.in-Ok-Some-Fit in
    let rose = rw c.in-Ok-None-fit_answer.field-0-is at c.in-Ok-None-fit_answer.ensures.due in
    run_fit_unread words _ c.texts_are_known.ensures (once words order.field-0 order.ensures) order.domain
    (fitted words order.field-0 order.ensures order.domain (order.field-0-is ∙ ap Some order.field-0-0-is)) refl (rose, keeps_itself _)

pub returns-in-Err-fit_answer-clause-run : goal.returns-in-Err-fit_answer-clause-run
returns-in-Err-fit_answer-clause-run g c = run_out (texts c.args.words.now) _ c.texts_are_known.ensures refl (c.in-Err-fit_answer.ensures.stays, keeps_itself _)

pub returns-in-Ok-Some-fit_answer-clause-unread : goal.returns-in-Ok-Some-fit_answer-clause-unread
returns-in-Ok-Some-fit_answer-clause-unread g c = λ none no_fit.
    let order = c.in-Ok-Some-Fit in
    absurd (no_fit order.domain (fitted (texts c.args.words.now) order.field-0 order.ensures order.domain (order.field-0-is ∙ ap Some order.field-0-0-is)))

pub returns-in-Ok-Some-fit_answer-clause-asked : goal.returns-in-Ok-Some-fit_answer-clause-asked
returns-in-Ok-Some-fit_answer-clause-asked g c = (0, omega (arith), unasked (λ a. (goal.Adviser-dyn g (a.vtable, a.value)).asked_of a.value) c.args.advisers.now.items)

pub returns-in-Ok-None-fit_answer-clause-unread : goal.returns-in-Ok-None-fit_answer-clause-unread
returns-in-Ok-None-fit_answer-clause-unread g c = λ none no_fit.
    let order = c.in-Ok-Some-Fit in
    absurd (no_fit order.domain (fitted (texts c.args.words.now) order.field-0 order.ensures order.domain (order.field-0-is ∙ ap Some order.field-0-0-is)))

pub returns-in-Ok-None-fit_answer-clause-asked : goal.returns-in-Ok-None-fit_answer-clause-asked
returns-in-Ok-None-fit_answer-clause-asked g c = (0, omega (arith), unasked (λ a. (goal.Adviser-dyn g (a.vtable, a.value)).asked_of a.value) c.args.advisers.now.items)

pub returns-in-Err-fit_answer-clause-unread : goal.returns-in-Err-fit_answer-clause-unread
returns-in-Err-fit_answer-clause-unread g c = λ none no_fit.
    let order = c.in-Ok-Some-Fit in
    absurd (no_fit order.domain (fitted (texts c.args.words.now) order.field-0 order.ensures order.domain (order.field-0-is ∙ ap Some order.field-0-0-is)))

pub returns-in-Err-fit_answer-clause-asked : goal.returns-in-Err-fit_answer-clause-asked
returns-in-Err-fit_answer-clause-asked g c = (0, omega (arith), unasked (λ a. (goal.Adviser-dyn g (a.vtable, a.value)).asked_of a.value) c.args.advisers.now.items)
