-- All that is said of a call: by the words that were accepted or refused, and by what was due.
use Rattle.std.proofs.Common.{◌≡◌, ℕ, ◌⊎◌, ◌≤◌, inl, inr, List, [], ◌∷◌, ◌++◌, length, map, take, Option, None, Some, refl, sym, ap, ◌∙◌, subst, arith, append-nil}
use Rattle.std.specs.Io.KnownBytes.{Appends, Keeps}
use Rattle.std.proofs.lemmas.List.{append_cancel_left, take_all}
use Rattle.std.proofs.lemmas.Option.{same_Some}
use Rattle.outside.specs.Faults.{Rose}
use Rattle.outside.specs.Sink.{AppendsFront}
use Rattle.step_meaning.specs.Syntax.{Statements}
use Rattle.ctl_formula.specs.Formulas.{normal}
use Rattle.normal_form.specs.Operators.{operators}
use Rattle.formula_parse.specs.Derives.{IsFormulaOf}
use Rattle.ctl_rounds.specs.Asked.{RoseBy}
use Rattle.function_top.specs.ProgramText.{IsProgramText}
use Rattle.command_words.specs.declared.order.Domain.{Domain}
use Rattle.command_words.specs.Order.{Accepted, Ask, Request, Task, analysis, demo, fit}
use Rattle.function_top.specs.declared.question.Refusal.{Refusal}
use Rattle.function_top.specs.declared.question.Refusal.TheVariants as R
use Rattle.function_top.specs.declared.status.Status.{Status}
use Rattle.function_top.specs.declared.status.Status.TheVariants.{AllInputs, NoMemory, Program, Formula, ReadFault, SomeInputs, Words}
use Rattle.function_top.specs.Answer.{Answers, CoversDemos, IsComplete, IsDueBy, IsFitComplete, IsRun, SaysAll, SaysWhatFits, WasDue, Writes, after_failing}
use Rattle.function_top.specs.Asking.{IsInputGiven}
use Rattle.function_top.specs.Call.{Call}
use Rattle.function_top.specs.Demo.{defaults}
use Rattle.function_top.specs.Fitting.{IsFitDueOn}
use Rattle.function_top.specs.Fitting as F
use Rattle.function_top.specs.Form.{HasKnownLines, IsKnown}
use Rattle.function_top.specs.Headline.{AnswerHeadline, Headline}
use Rattle.function_top.specs.Known.{KnownTexts}
use Rattle.function_top.specs.Output.{IsDueOn, IsLongFormula, IsNoFormula, IsReason, IsReport, IsWithinLimits, SaysRefusal, answered, refused, reported}
use Rattle.function_top.specs.Refusals.{usage_text}
use Rattle.function_top.specs.Subject.{IsFormulaAsked, IsSubject, Subject}
use Rattle.function_top.specs.Text.{HasGraph}
use Rattle.function_top.proofs.Formed.{summary_known, usage_known}
use Rattle.function_top.proofs.FitReports.{fit_due_known, fit_due_met, fit_due_true}
use Rattle.function_top.proofs.Framed.{framed_answer_headline, framed_headline}
use Rattle.function_top.proofs.Headline.{due_known, due_told, due_true, told_read, told_report, verdict_report}
use Rattle.function_top.proofs.OneTold.{TellsTrue}
use Rattle.function_top.proofs.Saying.{due_says}
use Rattle.function_top.proofs.Truth.{SaysTrue}
use Rattle.report_text.proofs.Frame.{Bytes}
use Rattle.function_top.proofs.Written.{EachWhole, of_front, of_nothing}

-- ---- what was written

-- what the sink took in the call is what was appended
written_is : (taken taken' : Option Bytes) (before written bytes : Bytes) → taken ≡ Some before → taken' ≡ Some (before ++ written)
    → Appends taken taken' bytes → written ≡ bytes
written_is taken taken' before written bytes told told' h =
    let both : Appends (Some before) (Some (before ++ written)) bytes =
    subst (λ t. Appends (Some before) t bytes) told' (subst (λ t. Appends t taken' bytes) told h)
    in
    append_cancel_left before written bytes both

-- all of a text is a front of it
all_is_front : (taken taken' : Option Bytes) (text : Bytes) → Appends taken taken' text → AppendsFront taken taken' text
all_is_front taken taken' text h = (length text, omega arith, subst (Appends taken taken') (sym (take_all (length text) text (omega arith))) h)

-- what stays is kept
pub keeps_itself : (taken : Option Bytes) → Keeps taken taken
keeps_itself None = tt
keeps_itself (Some bytes) = refl

module _ (call : Call) where
  -- the writing of bytes with a status: all of them, or a front of them with the status of a failed write
  abbrev pub Settles : Status → Status → Bytes → Type 0
  Settles status result bytes =
      ((result ≡ status) × Appends call.taken call.taken_after bytes)
      ⊎ ((result ≡ after_failing status) × AppendsFront call.taken call.taken_after bytes × Rose call.write_faults call.write_faults_after)

  settled_front : (status result : Status) (bytes : Bytes) → Settles status result bytes → AppendsFront call.taken call.taken_after bytes
  settled_front status result bytes (inl h) = all_is_front call.taken call.taken_after bytes h.1
  settled_front status result bytes (inr h) = h.1

  -- a status that stays where a write failed
  settled_whole : (same status result : Status) (bytes : Bytes) → after_failing same ≡ same → status ≡ same → Settles status result bytes
      → (result ≡ same) × Writes call bytes
  settled_whole same status result bytes stays is (inl h) = (h.0 ∙ is, inl h.1)
  settled_whole same status result bytes stays is (inr h) = (h.0 ∙ ap after_failing is ∙ stays, inr (h.1, h.2))

  -- of each whole line that the sink took in the call
  abbrev EachWritten : (Bytes → Type 0) → Type 0
  EachWritten P = (before written : Bytes) → call.taken ≡ Some before → call.taken_after ≡ Some (before ++ written) → EachWhole P written

  -- what holds of each whole line of the bytes holds of each that was written
  front_written : (P : Bytes → Type 0) (status result : Status) (bytes : Bytes) → Settles status result bytes → EachWhole P bytes → EachWritten P
  front_written P status result bytes settled h before written told told' =
      let front = settled_front status result bytes settled in
      subst (EachWhole P) (sym (written_is call.taken call.taken_after before written (take front.0 bytes) told told' front.2)) (of_front P bytes front.0 h)

  -- nothing was written
  nothing_written : (P : Bytes → Type 0) → call.taken_after ≡ call.taken → EachWritten P
  nothing_written P stays before written told told' =
      let same : before ++ [] ≡ before ++ written = append-nil before ∙ same_Some before (before ++ written) (sym told ∙ (sym stays ∙ told')) in
      subst (EachWhole P) (append_cancel_left before [] written same) (of_nothing P)

-- ---- a text with a subject within the limits isn't refused

module _ (known : KnownTexts) (task : Task) (text : Bytes) (subject : Subject) (h : IsSubject task text subject) (limits : IsWithinLimits text)
    (given : IsInputGiven subject.own task.input) (limited : operators (normal subject.formula) ≤ 256) where
  own_graph : (names : List Bytes) → HasGraph text names → subject.own ≡ names
  own_graph names within = known.own_unique text subject.own names h.own within.own_is

  meant_not_refused : (names : List Bytes) (formula : Bytes) (number offset : ℕ) → IsFormulaOf formula names subject.formula
      → IsNoFormula names formula number offset ⊎ IsLongFormula names formula number offset → ⊥
  meant_not_refused names formula number offset derived (inl other) = other.none subject.formula derived
  meant_not_refused names formula number offset derived (inr long) =
      let same = known.formulas formula names subject.formula long.meant derived long.derived in
      let fits : operators (normal long.meant) ≤ 256 = subst (λ f. operators (normal f) ≤ 256) same limited in
      let over = long.long in
      omega (arith, fits, over)

  not_refused : (refusal : Refusal) (status : Status) (bytes : Bytes) → IsReason task text refusal → SaysRefusal refusal status bytes → ⊥
  not_refused (R.Program number offset) status bytes (inl long) says = let fits = limits.short in let over = long.long in omega (arith, fits, over)
  not_refused (R.Program number offset) status bytes (inr (inl other)) says = other.none subject.names subject.body h.program
  not_refused (R.Program number offset) status bytes (inr (inr past)) says = limits.graph number offset past
  not_refused R.Input status bytes due says = due.refused (subst (λ names. IsInputGiven names task.input) (own_graph due.names due.within) given)
  not_refused (R.Formula number offset) status bytes due says =
      let asked : IsFormulaOf due.formula subject.own subject.formula =
      subst (λ asked. IsFormulaAsked subject.own asked subject.formula) due.asked h.formula in
      meant_not_refused due.names due.formula number offset
      (subst (λ names. IsFormulaOf due.formula names subject.formula) (own_graph due.names due.within) asked) due.refused
  not_refused R.Memory status bytes due says = says

  -- so what is due on it is a report, or what is told of the input
  shown_due : {status : Status} {advisers turns : ℕ} {bytes : Bytes} → IsDueOn task text status advisers turns bytes → IsReport status
  shown_due {status} {advisers} {turns} {bytes} (reported own report whole on verdict) = verdict_report status report.unknown verdict
  shown_due {status} {advisers} {turns} {bytes} (answered asked own input one on) = told_report on.found input status on.claim on.told
  shown_due {status} {advisers} {turns} {bytes} (refused refusal reason says unasked) = absurd (not_refused refusal status bytes reason says)

-- nor is a text that is a program within the limits, where it is asked what fits
module _ (text : Bytes) (names : List Bytes) (body : Statements) (is : IsProgramText text names body) (limits : IsWithinLimits text) where
  fit_not_refused : (refusal : Refusal) (status : Status) (bytes : Bytes) → ((task : Task) → IsReason task text refusal) → SaysRefusal refusal status bytes → ⊥
  fit_not_refused (R.Program number offset) status bytes reason says = elim (reason defaults) [
    | inl long ↦ let fits = limits.short in let over = long.long in omega (arith, fits, over)
    | inr (inl other) ↦ other.none names body is
    | inr (inr past) ↦ limits.graph number offset past
  ]
  fit_not_refused R.Input status bytes reason says = (reason defaults).refused tt
  fit_not_refused (R.Formula number offset) status bytes reason says = let none = (reason defaults).asked in cc
  fit_not_refused R.Memory status bytes reason says = says

  fit_shown : {status : Status} {turns : ℕ} {bytes : Bytes} → IsFitDueOn text status turns bytes → IsReport status
  fit_shown {status} {turns} {bytes} (F.reported own its fits unknown on verdict unasked) = verdict_report status unknown verdict
  fit_shown {status} {turns} {bytes} (F.refused refusal reason says unasked) = absurd (fit_not_refused refusal status bytes reason says)

-- ---- what the words ask for

-- they ask for one thing
abbrev pub AskOnce : List Bytes → Type 0
AskOnce words = (one other : Request) → Ask words one → Ask words other → one ≡ other

no_demo : (words : List Bytes) → AskOnce words → (task : Task) → Ask words (analysis task) → (number : ℕ) → ¬ Ask words (demo number)
no_demo words once task here number there = let same : analysis task ≡ demo number = once (analysis task) (demo number) here there in cc

no_fit : (words : List Bytes) → AskOnce words → (task : Task) → Ask words (analysis task) → (domain : Domain) → ¬ Ask words (fit domain)
no_fit words once task here domain there = let same : analysis task ≡ fit domain = once (analysis task) (fit domain) here there in cc

fit_no_demo : (words : List Bytes) → AskOnce words → (domain : Domain) → Ask words (fit domain) → (number : ℕ) → ¬ Ask words (demo number)
fit_no_demo words once domain here number there = let same : fit domain ≡ demo number = once (fit domain) (demo number) here there in cc

-- ---- what was due by what the words ask for

module _ (known : KnownTexts) (words : List Bytes) (once : AskOnce words) (call : Call) (status : Status) (bytes : Bytes) (was : WasDue words call status bytes) where
  by_request : (request : Request) → Ask words request → IsDueBy request call status was.turns bytes
  by_request request ask = subst (λ r. IsDueBy r call status was.turns bytes) (once was.request request was.asked ask) was.due

  -- by an analysis, on the text that was told
  by_task : (task : Task) (told : Bytes) → Ask words (analysis task) → call.left ≡ Some told
      → IsDueOn task told status (length call.asked) was.turns bytes
  by_task task told ask is =
      let due = by_request (analysis task) ask in
      subst (λ t. IsDueOn task t status (length call.asked) was.turns bytes) (sym (told_read call.left due.0 told due.1 is)) due.2

  known_by : (request : Request) → IsDueBy request call status was.turns bytes → HasKnownLines call.left bytes
  known_by (analysis task) due = due_known known task call.left due.0 due.1 due.2
  known_by (demo number) due = summary_known call.left number _ _ _ bytes due.1.is
  known_by (fit domain) due = fit_due_known known due.0 call.left due.1 due.2

  -- where it is asked what fits, on that text too
  by_fit : (domain : Domain) (told : Bytes) → Ask words (fit domain) → call.left ≡ Some told → IsFitDueOn told status was.turns bytes
  by_fit domain told ask is =
      let due = by_request (fit domain) ask in
      subst (λ t. IsFitDueOn t status was.turns bytes) (sym (told_read call.left due.0 told due.1 is)) due.2

  fit_was_said : Appends call.taken call.taken_after bytes → SaysWhatFits words status call
  fit_was_said appends domain text names body ask is h report = (bytes, appends, fit_due_met known text h report (by_fit domain text ask is))

  was_said : Appends call.taken call.taken_after bytes → SaysAll words status call
  was_said appends task text subject ask is h report = (bytes, appends, due_says known task text subject h report (by_task task text ask is))

  module _ (result : Status) (settled : Settles call status result bytes) where
    abbrev As : Status → Type 0
    As other = WasDue words call other bytes

    report_answers : IsReport status → Settles call status result bytes → Answers words result call
    report_answers (inl all) (inl h) = rw (h.0 ∙ all) (bytes, subst As all was, h.1)
    report_answers (inl all) (inr h) = rw (h.0 ∙ ap after_failing all) (bytes, inl (subst As all was), h.1, h.2)
    report_answers (inr some) (inl h) = rw (h.0 ∙ some) (bytes, subst As some was, h.1)
    report_answers (inr some) (inr h) = rw (h.0 ∙ ap after_failing some) (bytes, inr (subst As some was), h.1, h.2)

    refusal_answers : (refusal : Refusal) → SaysRefusal refusal status bytes → Answers words result call
    refusal_answers (R.Program number offset) says =
        let whole = settled_whole call Program status result bytes refl says.0 settled in rw whole.0 (bytes, subst As says.0 was, whole.1)
    refusal_answers R.Input says =
        let whole = settled_whole call Words status result bytes refl says.0 settled in
        rw whole.0 (subst (λ b. ((¬ Accepted words) ⊎ WasDue words call Words b) × Writes call b) says.1 (inr (subst As says.0 was), whole.1))
    refusal_answers (R.Formula number offset) says =
        let whole = settled_whole call Formula status result bytes refl says.0 settled in rw whole.0 (bytes, subst As says.0 was, whole.1)
    refusal_answers R.Memory says = absurd says

    due_answers : {task : Task} {text : Bytes} {advisers turns : ℕ} → IsDueOn task text status advisers turns bytes → Answers words result call
    due_answers (reported own report whole on verdict) = report_answers (verdict_report status report.unknown verdict) settled
    due_answers (answered asked own input one on) = report_answers (told_report on.found input status on.claim on.told) settled
    due_answers (refused refusal reason says unasked) = refusal_answers refusal says

    fit_answers : {text : Bytes} {turns : ℕ} → IsFitDueOn text status turns bytes → Answers words result call
    fit_answers (F.reported names body fits unknown on verdict unasked) = report_answers (verdict_report status unknown verdict) settled
    fit_answers (F.refused refusal reason says unasked) = refusal_answers refusal says

    answers_by : (request : Request) → IsDueBy request call status was.turns bytes → Answers words result call
    answers_by (analysis task) due = due_answers due.2
    answers_by (demo number) due = report_answers (inl due.0) settled
    answers_by (fit domain) due = fit_answers due.2

    completes : IsReport status → ¬ Rose call.write_faults call.write_faults_after → (result ≡ AllInputs) ⊎ (result ≡ SomeInputs) ⊎ (result ≡ NoMemory)
    completes is writes = elim settled [
      | inl h ↦ elim is [
        | inl all ↦ inl (h.0 ∙ all)
        | inr some ↦ inr (inl (h.0 ∙ some))
      ]
      | inr h ↦ absurd (writes h.2)
    ]

    covers : CoversDemos words result call
    covers number ask writes = elim settled [
      | inl h ↦ inl (h.0 ∙ (by_request (demo number) ask).0)
      | inr h ↦ absurd (writes h.2)
    ]

-- whatever was written whole with the status of a report says all that a report does
said : KnownTexts → (words : List Bytes) → AskOnce words → (call : Call) (result : Status) → Answers words result call → SaysAll words result call
said known words once call result answers task text subject ask is h (inl all) =
    let whole = subst (λ s. Answers words s call) all answers in
    subst (λ s. SaysAll words s call) (sym all) (was_said known words once call AllInputs whole.0 whole.1 whole.2) task text subject ask is h (inl all)
said known words once call result answers task text subject ask is h (inr some) =
    let whole = subst (λ s. Answers words s call) some answers in
    subst (λ s. SaysAll words s call) (sym some) (was_said known words once call SomeInputs whole.0 whole.1 whole.2) task text subject ask is h (inr some)

fit_said : KnownTexts → (words : List Bytes) → AskOnce words → (call : Call) (result : Status) → Answers words result call → SaysWhatFits words result call
fit_said known words once call result answers domain text names body ask is h (inl all) =
    let whole = subst (λ s. Answers words s call) all answers in
    subst (λ s. SaysWhatFits words s call) (sym all) (fit_was_said known words once call AllInputs whole.0 whole.1 whole.2) domain text names body ask is h (inl all)
fit_said known words once call result answers domain text names body ask is h (inr some) =
    let whole = subst (λ s. Answers words s call) some answers in
    subst (λ s. SaysWhatFits words s call) (sym some) (fit_was_said known words once call SomeInputs whole.0 whole.1 whole.2) domain text names body ask is h (inr some)

-- ---- all of it

module _ (words : List Bytes) (call : Call) where
  -- what was due was written, or a front of it
  pub run_settled : KnownTexts → AskOnce words → (status result : Status) (bytes : Bytes) → WasDue words call status bytes
      → Settles call status result bytes → IsRun words result call
  run_settled known once status result bytes was settled =
      let answers = answers_by known words once call status bytes was result settled was.request was.due in
      let due = by_task known words once call status bytes was in
      let headline : Headline words call = λ task told before written subject ask is h taken taken' line condition claim whole s.
      front_written call (SaysTrue subject) status result bytes settled (due_true known task told subject h (due task told ask is))
      before written taken taken' line whole condition claim s
      in
      let answer : AnswerHeadline words call = λ task told before written asked subject input ask is h one given taken taken' line claim whole tells.
      front_written call (TellsTrue subject input) status result bytes settled (due_told known task told subject h (due task told ask is) one given)
      before written taken taken' line whole claim tells
      in
      record {
        headline = headline;
        answer = answer;
        framed = framed_headline known words call headline;
        framed_answer = framed_answer_headline known words call answer;
        form = front_written call (IsKnown call.left) status result bytes settled (known_by known words once call status bytes was was.request was.due);
        answers = answers;
        refuses = λ none. absurd (none (was.request, was.asked));
        complete = λ task told subject ask is h limits given limited reads writes.
            completes known words once call status bytes was result settled
            (shown_due known task told subject h limits given limited (due task told ask is)) writes;
        says = said known words once call result answers;
        demos = covers known words once call status bytes was result settled;
        fit_headline = λ domain told before written subject ask is h taken taken' line condition claim whole s.
            front_written call (SaysTrue subject) status result bytes settled
            (fit_due_true known told subject h (by_fit known words once call status bytes was domain told ask is))
            before written taken taken' line whole condition claim s;
        fit_complete = λ domain told names body ask is h limits reads writes.
            completes known words once call status bytes was result settled
            (fit_shown told names body h limits (by_fit known words once call status bytes was domain told ask is)) writes;
        says_what_fits = fit_said known words once call result answers;
      }

  -- nothing was written
  silent_headline : call.taken_after ≡ call.taken → Headline words call
  silent_headline stays = λ task told before written subject ask is h taken taken' line condition claim whole s.
      nothing_written call (SaysTrue subject) stays before written taken taken' line whole condition claim s

  silent_answer : call.taken_after ≡ call.taken → AnswerHeadline words call
  silent_answer stays = λ task told before written asked subject input ask is h one given taken taken' line claim whole tells.
      nothing_written call (TellsTrue subject input) stays before written taken taken' line whole claim tells

  run_silent : KnownTexts → (result : Status) → call.taken_after ≡ call.taken → (IsReport result → ⊥) → Answers words result call
      → (¬ Accepted words → (result ≡ Words) ⊎ (result ≡ NoMemory)) → IsComplete words result call → CoversDemos words result call
      → IsFitComplete words result call → IsRun words result call
  run_silent known result stays none answers refuses complete demos fit_complete = record {
    headline = silent_headline stays;
    answer = silent_answer stays;
    framed = framed_headline known words call (silent_headline stays);
    framed_answer = framed_answer_headline known words call (silent_answer stays);
    form = nothing_written call (IsKnown call.left) stays;
    answers = answers;
    refuses = refuses;
    complete = complete;
    says = λ task text subject ask is h report. absurd (none report);
    demos = demos;
    fit_headline = λ domain told before written subject ask is h taken taken' line condition claim whole s.
        nothing_written call (SaysTrue subject) stays before written taken taken' line whole condition claim s;
    fit_complete = fit_complete;
    says_what_fits = λ domain text names body ask is h report. absurd (none report);
  }

  -- since a read failed
  pub run_unread : KnownTexts → AskOnce words → (task : Task) → Ask words (analysis task) → call.taken_after ≡ call.taken → Answers words ReadFault call
      → IsRun words ReadFault call
  run_unread known once task ask stays answers =
      run_silent known ReadFault stays (λ report. elim report [ inl all ↦ cc | inr some ↦ cc ]) answers (λ none. absurd (none (analysis task, ask)))
      (λ task text subject ask is h limits given limited reads writes. absurd (reads answers.0))
      (λ number own. absurd (no_demo words once task ask number own))
      (λ domain text names body own. absurd (no_fit words once task ask domain own))

  pub run_fit_unread : KnownTexts → AskOnce words → (domain : Domain) → Ask words (fit domain) → call.taken_after ≡ call.taken → Answers words ReadFault call
      → IsRun words ReadFault call
  run_fit_unread known once domain ask stays answers =
      run_silent known ReadFault stays (λ report. elim report [ inl all ↦ cc | inr some ↦ cc ]) answers (λ none. absurd (none (fit domain, ask)))
      (λ task text subject own. absurd (no_fit words once task own domain ask))
      (λ number own. absurd (fit_no_demo words once domain ask number own))
      (λ domain text names body ask is h limits reads writes. absurd (reads answers.0))

  -- since memory ran out
  pub run_out : KnownTexts → call.taken_after ≡ call.taken → Answers words NoMemory call → IsRun words NoMemory call
  run_out known stays answers =
      run_silent known NoMemory stays (λ report. elim report [ inl all ↦ cc | inr some ↦ cc ]) answers (λ none. inr refl)
      (λ task text subject ask is h limits given limited reads writes. inr (inr refl)) (λ number ask writes. inr refl)
      (λ domain text names body ask is h limits reads writes. inr (inr refl))

  -- the words were refused, and the usage line was written, or a front of it
  pub run_refused : ¬ Accepted words → (result : Status) → Settles call Words result usage_text → IsRun words result call
  run_refused none result settled =
      let whole = settled_whole call Words Words result usage_text refl refl settled in
      record {
        headline = λ task told before written subject ask. absurd (none (analysis task, ask));
        answer = λ task told before written asked subject input ask. absurd (none (analysis task, ask));
        framed = λ task told before written subject unit ask. absurd (none (analysis task, ask));
        framed_answer = λ task told before written asked subject unit input ask. absurd (none (analysis task, ask));
        form = front_written call (IsKnown call.left) Words result usage_text settled (usage_known call.left);
        answers = rw whole.0 (inl none, whole.1);
        refuses = λ none. inl whole.0;
        complete = λ task text subject ask. absurd (none (analysis task, ask));
        says = λ task text subject ask. absurd (none (analysis task, ask));
        demos = λ number ask. absurd (none (demo number, ask));
        fit_headline = λ domain told before written subject ask. absurd (none (fit domain, ask));
        fit_complete = λ domain text names body ask. absurd (none (fit domain, ask));
        says_what_fits = λ domain text names body ask. absurd (none (fit domain, ask));
      }

-- numbers rise as the advisers whose they are
pub numbers_rose : {A : Type 0} (asked : A → ℕ) (times : ℕ) (old new : List A) → RoseBy asked times old new
    → RoseBy (λ (n : ℕ). n) times (map asked old) (map asked new)
numbers_rose asked times [] [] rose = rose
numbers_rose asked times [] (one ∷ more) rose = rose
numbers_rose asked times (one ∷ more) [] rose = rose
numbers_rose asked times (one ∷ more) (two ∷ rest) rose = (rose.0, numbers_rose asked times more rest rose.1)
