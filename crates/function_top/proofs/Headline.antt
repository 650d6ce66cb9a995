-- What is due on a text is true and has a known form, and what it is by its status and by what is asked for.
use Rattle.std.proofs.Common.{◌≡◌, ◌≢◌, pos, ℕ, inl, inr, List, length, Option, None, Some, codes, refl, sym, ap, ◌∙◌, subst, arith}
use Rattle.std.proofs.lemmas.Option.{same_Some}
use Rattle.step_meaning.specs.Outcome.{Store}
use Rattle.step_meaning.specs.Run.{IsInput}
use Rattle.step_meaning.specs.Syntax.{Statements}
use Rattle.ctl_formula.specs.Formulas.{Ctl, normal}
use Rattle.function_top.specs.ProgramText.{IsProgramText}
use Rattle.line_text.specs.declared.claim.Claim.{Claim}
use Rattle.line_text.specs.declared.claim.Claim.TheVariants.{Exactly}
use Rattle.line_text.specs.Names.{AreNames}
use Rattle.input_text.specs.Input.{IsInputText}
use Rattle.input_text.proofs.Unique.{same_input}
use Rattle.report_text.specs.declared.line.Line.{Line}
use Rattle.report_text.specs.declared.line.Top.TheVariants.{Exact as Counted}
use Rattle.report_text.specs.declared.report.Report.{Report}
use Rattle.function_top.specs.declared.question.Refusal.{Refusal}
use Rattle.function_top.specs.declared.question.Refusal.TheVariants as R
use Rattle.function_top.specs.declared.found.Found.{Found}
use Rattle.function_top.specs.declared.status.Status.{Status}
use Rattle.function_top.specs.declared.status.Status.TheVariants.{AllInputs, SomeInputs, Words, Program, Formula}
use Rattle.function_top.specs.Output.{IsAnswerOn, IsDueOn, IsReport, IsReportOn, IsVerdict, SaysRefusal, answered, refused, reported}
use Rattle.function_top.specs.Form.{HasKnownLines}
use Rattle.function_top.specs.Exact.{HasSmallLevels, IsExact}
use Rattle.function_top.specs.Found.{IsExactPart}
use Rattle.function_top.specs.Known.{KnownClaims, KnownLines, KnownTexts}
use Rattle.function_top.specs.Meeting.{TellsExactly}
use Rattle.function_top.specs.OneInput.{IsToldOf}
use Rattle.command_words.specs.Order.{Task}
use Rattle.function_top.specs.Refusals.{fault_line, formula_text, program_text, usage_line, usage_text}
use Rattle.function_top.specs.Subject.{IsFormulaAsked, IsSubject, Subject}
use Rattle.function_top.specs.Text.{IsRead}
use Rattle.function_top.specs.TrueLine.{IsTrueOf}
use Rattle.function_top.proofs.Formed.{claim_known, formula_known, program_known, report_known, usage_known}
use Rattle.function_top.proofs.Claiming.{no_exact_number}
use Rattle.function_top.proofs.ToldExactly.{made_whole, numbers_small, tells_alone, told_exactly}
use Rattle.function_top.proofs.Truth.{SaysTrue, formula_silent, program_silent, report_true, silent_true, usage_silent}
use Rattle.function_top.proofs.OneTold.{TellsTrue, colon_tells, fault_colon, told_is_true}
use Rattle.report_text.proofs.Frame.{Bytes}
use Rattle.function_top.proofs.Wider.{wider_input}
use Rattle.function_top.proofs.Written.{EachWhole, one_good}

-- ---- the subject of a text

module _ (known : KnownTexts) where
  -- over the same names one formula is asked about
  same_formula : (names : List Bytes) (asked : Option Bytes) (one other : Ctl) → IsFormulaAsked names asked one → IsFormulaAsked names asked other
      → one ≡ other
  same_formula names None one other here there = here ∙ sym there
  same_formula names (Some text) one other here there = known.formulas text names one other here there

  -- a text has one subject
  pub same_subject : (task : Task) (text : Bytes) (one other : Subject) → IsSubject task text one → IsSubject task text other → one ≡ other
  same_subject task text one other here there =
      let same = known.unique text one.names other.names one.body other.body here.program there.program in
      let own = known.own_unique text one.own other.own here.own there.own in
      let formula = same_formula other.own task.formula one.formula other.formula
      (subst (λ names. IsFormulaAsked names task.formula one.formula) own here.formula) there.formula
      in
      ap {B = Subject} (λ names. record { names = names; own = one.own; body = one.body; formula = one.formula }) same.0
      ∙ ap {B = Subject} (λ own. record { names = other.names; own = own; body = one.body; formula = one.formula }) own
      ∙ ap {B = Subject} (λ body. record { names = other.names; own = other.own; body = body; formula = one.formula }) same.1
      ∙ ap {B = Subject} (λ formula. record { names = other.names; own = other.own; body = other.body; formula = formula }) formula

  -- the names of a text that is a program
  pub own_names : {task : Task} {text : Bytes} {subject : Subject} → IsSubject task text subject → AreNames subject.names
  own_names {task} {text} {subject} is = known.named text subject.names subject.body is.program

-- ---- the lines of what is refused

-- the usage line, or the line of a fault
pub data IsRefusalText : Bytes → Type 0 where
  usage : IsRefusalText usage_text
  of_program : (number offset : ℕ) → IsRefusalText (program_text number offset)
  of_formula : (number offset : ℕ) → IsRefusalText (formula_text number offset)

pub refusal_text : (refusal : Refusal) (status : Status) (bytes : Bytes) → SaysRefusal refusal status bytes → IsRefusalText bytes
refusal_text (R.Program number offset) status bytes says = subst IsRefusalText (sym says.1) (of_program number offset)
refusal_text R.Input status bytes says = subst IsRefusalText (sym says.1) usage
refusal_text (R.Formula number offset) status bytes says = subst IsRefusalText (sym says.1) (of_formula number offset)
refusal_text R.Memory status bytes says = absurd says

-- their status is none of a report
pub refused_otherwise : (refusal : Refusal) (status : Status) (bytes : Bytes) → SaysRefusal refusal status bytes → IsReport status → ⊥
refused_otherwise (R.Program number offset) status bytes says (inl all) = let clash : Program ≡ AllInputs = sym says.0 ∙ all in cc
refused_otherwise (R.Program number offset) status bytes says (inr some) = let clash : Program ≡ SomeInputs = sym says.0 ∙ some in cc
refused_otherwise R.Input status bytes says (inl all) = let clash : Words ≡ AllInputs = sym says.0 ∙ all in cc
refused_otherwise R.Input status bytes says (inr some) = let clash : Words ≡ SomeInputs = sym says.0 ∙ some in cc
refused_otherwise (R.Formula number offset) status bytes says (inl all) = let clash : Formula ≡ AllInputs = sym says.0 ∙ all in cc
refused_otherwise (R.Formula number offset) status bytes says (inr some) = let clash : Formula ≡ SomeInputs = sym says.0 ∙ some in cc
refused_otherwise R.Memory status bytes says is = says

-- ---- what is due, by its status and by what is asked for

-- one input is asked for, or none
pub none_some : {asked : Bytes} (task : Task) → task.input ≡ Some asked → task.input ≡ None → ⊥
none_some {asked} task one none = let clash : None ≡ Some asked = sym none ∙ one in cc

pub verdict_report : (status : Status) (unknown : List Line) → IsVerdict status unknown → IsReport status
verdict_report status unknown (inl covers) = inl covers.0
verdict_report status unknown (inr lacks) = inr lacks.0

pub told_report : (found : Found) (input : Store) (status : Status) (claim : Claim) → IsToldOf found input status claim → IsReport status
told_report found input status claim (inl claimed) = inl claimed.0
told_report found input status claim (inr unclaimed) = inr unclaimed.0

-- a report, or what is told of an input, is on the subject, and the input, that is given
module _ (known : KnownTexts) (task : Task) (text : Bytes) (subject : Subject) (h : IsSubject task text subject) where
  pub own_report : {own : Subject} {report : Report} {advisers turns : ℕ} {bytes : Bytes} → IsReportOn task text own report advisers turns bytes
      → IsReportOn task text subject report advisers turns bytes
  own_report {own} {report} {advisers} {turns} {bytes} on =
      subst (λ s. IsReportOn task text s report advisers turns bytes) (same_subject known task text own subject on.analysed.is h) on

  pub own_answer : {asked : Bytes} {own : Subject} {input : Store} {status : Status} {turns : ℕ} {bytes : Bytes}
      → IsAnswerOn task text asked own input status turns bytes → IsAnswerOn task text asked subject input status turns bytes
  own_answer {asked} {own} {input} {status} {turns} {bytes} on =
      subst (λ s. IsAnswerOn task text asked s input status turns bytes) (same_subject known task text own subject on.analysed.is h) on

  own_input : {other asked : Bytes} {its input : Store} {status : Status} {turns : ℕ} {bytes : Bytes} → task.input ≡ Some other → task.input ≡ Some asked
      → IsInputText subject.own asked input → IsAnswerOn task text other subject its status turns bytes
      → IsAnswerOn task text asked subject input status turns bytes
  own_input {other} {asked} {its} {input} {status} {turns} {bytes} two one given on =
      let here : IsAnswerOn task text asked subject its status turns bytes =
      subst (λ a. IsAnswerOn task text a subject its status turns bytes) (same_Some other asked (sym two ∙ one)) on in
      subst (λ i. IsAnswerOn task text asked subject i status turns bytes)
      (same_input subject.own (known.own_named text subject.own h.own) asked input its given here.input_is.input_is here.input_is.some) here

  -- an input of `main` is one of the whole program
  whole_input : {input : Store} → IsInput (length subject.own) input → IsInput (length subject.names) input
  whole_input is = wider_input (known.own_fewer text subject.names subject.own subject.body h.program h.own) is

  -- what is due with the status of a report is one on the subject, or what is told of the input that is asked for
  pub due_report : {status : Status} {advisers turns : ℕ} {bytes : Bytes} → IsReport status → IsDueOn task text status advisers turns bytes
      → task.input ≡ None → (report : Report) × IsReportOn task text subject report advisers turns bytes
  due_report is (reported own report whole on verdict) none = (report, own_report on)
  due_report is (answered asked own input one on) none = absurd (none_some task one none)
  due_report {status} {advisers} {turns} {bytes} is (refused refusal reason says unasked) none =
      absurd (refused_otherwise refusal status bytes says is)

  pub due_answer : {status : Status} {advisers turns : ℕ} {bytes : Bytes} → IsReport status → IsDueOn task text status advisers turns bytes
      → {asked : Bytes} {input : Store} → task.input ≡ Some asked → IsInputText subject.own asked input
      → IsAnswerOn task text asked subject input status turns bytes
  due_answer is (reported own report whole on verdict) one given = absurd (none_some task one whole)
  due_answer is (answered other own its two on) one given = own_input two one given (own_answer on)
  due_answer {status} {advisers} {turns} {bytes} is (refused refusal reason says unasked) one given =
      absurd (refused_otherwise refusal status bytes says is)

  -- ---- what is due is true

  lines : KnownLines subject.names
  lines = known.lines subject.names (own_names known h)

  claims : KnownClaims subject.names
  claims = known.alone subject.names (own_names known h)

  true_refusal : {bytes : Bytes} → IsRefusalText bytes → EachWhole (SaysTrue subject) bytes
  true_refusal usage = silent_true subject known.opening usage_line usage_text usage_silent refl
  true_refusal (of_program number offset) =
      silent_true subject known.opening (fault_line (codes "program") number offset) (program_text number offset) (program_silent number offset) refl
  true_refusal (of_formula number offset) =
      silent_true subject known.opening (fault_line (codes "formula") number offset) (formula_text number offset) (formula_silent number offset) refl

  pub due_true : {status : Status} {advisers turns : ℕ} {bytes : Bytes} → IsDueOn task text status advisers turns bytes
      → EachWhole (SaysTrue subject) bytes
  due_true {status} {advisers} {turns} {bytes} (reported own report whole on verdict) =
      let here = own_report on in
      report_true subject known.opening lines task here.found report bytes here.analysed.finds here.shows here.printed
  due_true {status} {advisers} {turns} {bytes} (answered asked own input one on) =
      let here = own_answer on in
      one_good (SaysTrue subject) here.line bytes (claims.newline here.line here.claim here.tells)
      (λ condition claim s. absurd (claims.apart here.line condition here.claim claim here.tells s)) here.is_line
  due_true {status} {advisers} {turns} {bytes} (refused refusal reason says unasked) = true_refusal (refusal_text refusal status bytes says)

  -- ---- what is told of one input

  told_refusal : (input : Store) {bytes : Bytes} → IsRefusalText bytes → EachWhole (TellsTrue subject input) bytes
  told_refusal input usage = colon_tells subject claims input usage_line usage_text usage_silent (5, omega arith, refl) refl
  told_refusal input (of_program number offset) =
      colon_tells subject claims input (fault_line (codes "program") number offset) (program_text number offset) (program_silent number offset)
      (fault_colon (codes "program") number offset) refl
  told_refusal input (of_formula number offset) =
      colon_tells subject claims input (fault_line (codes "formula") number offset) (formula_text number offset) (formula_silent number offset)
      (fault_colon (codes "formula") number offset) refl

  pub due_told : {status : Status} {advisers turns : ℕ} {bytes : Bytes} → IsDueOn task text status advisers turns bytes → {asked : Bytes} {input : Store}
      → task.input ≡ Some asked → IsInputText subject.own asked input → EachWhole (TellsTrue subject input) bytes
  due_told (reported own report whole on verdict) one given = absurd (none_some task one whole)
  due_told {status} {advisers} {turns} {bytes} (answered other own its two on) {asked} {input} one given =
      let here = own_input two one given (own_answer on) in
      one_good (TellsTrue subject input) here.line bytes (claims.newline here.line here.claim here.tells)
      (λ claim tells. subst (λ k. IsTrueOf subject k input) (claims.one here.line here.claim claim here.tells tells)
      (told_is_true subject known.opening input (whole_input here.input_is.input_is) task here.found status here.claim here.analysed.finds here.told))
      here.is_line
  due_told {status} {advisers} {turns} {bytes} (refused refusal reason says unasked) {asked} {input} one given =
      told_refusal input (refusal_text refusal status bytes says)

  -- the text of an answer tells the exact claim exactly where the runs are as it says
  pub exact_answer : {asked : Bytes} {input : Store} {status : Status} {turns : ℕ} {bytes : Bytes} → IsAnswerOn task text asked subject input status turns bytes
      → task.formula ≡ None → HasSmallLevels subject.body task.delay → TellsExactly subject task.delay input bytes
  exact_answer {asked} {input} {status} {turns} {bytes} on unasked small n =
      let exact : IsExact (length subject.names) subject.body task.delay on.found.exact =
      subst (λ formula. IsExactPart formula subject task.delay on.found.exact) unasked on.analysed.finds.exactness.part in
      let made = made_whole subject.body task.delay small (length subject.names) on.found.exact exact in
      let told = told_exactly (length subject.names) subject.body task.delay made.stop made.tree made.level small.growth input (whole_input on.input_is.input_is)
      (numbers_small subject.own asked input on.input_is) n on.found made.is
      (subst (λ claims. claims ≢ Counted) (sym on.analysed.finds.truth.claims) (no_exact_number (normal subject.formula))) status on.claim on.told in
      let alone = tells_alone subject.names claims on.line bytes on.claim on.tells on.is_line (Exactly (pos n)) in
      ((λ says. told.0 (alone.0 says)), (λ ends. alone.1 (told.1 ends)))

-- ---- what is due has a known form

-- the text that was read is the one that was told
pub told_read : (left : Option Bytes) (text told : Bytes) → IsRead left text → left ≡ Some told → told ≡ text
told_read left text told read is = subst (λ l. IsRead l text) is read

module _ (known : KnownTexts) (task : Task) (left : Option Bytes) (text : Bytes) (read : IsRead left text) where
  -- the names of a program are those that its text declares, where it was told
  declared_names : {subject : Subject} → IsSubject task text subject → (told : Bytes) (declared : List Bytes) (other : Statements) → left ≡ Some told
      → IsProgramText told declared other → subject.names ≡ declared
  declared_names {subject} h told declared other is own =
      (known.unique text subject.names declared subject.body other h.program
      (subst (λ t. IsProgramText t declared other) (told_read left text told read is) own)).0

  known_refusal : {bytes : Bytes} → IsRefusalText bytes → HasKnownLines left bytes
  known_refusal usage = usage_known left
  known_refusal (of_program number offset) = program_known left number offset
  known_refusal (of_formula number offset) = formula_known left number offset

  pub due_known : {status : Status} {advisers turns : ℕ} {bytes : Bytes} → IsDueOn task text status advisers turns bytes → HasKnownLines left bytes
  due_known {status} {advisers} {turns} {bytes} (reported own report whole on verdict) =
      report_known left own.names (known.lines own.names (own_names known on.analysed.is)) (declared_names on.analysed.is) on.found report bytes on.shows on.printed
  due_known {status} {advisers} {turns} {bytes} (answered asked own input one on) =
      claim_known left own.names (declared_names on.analysed.is) on.line bytes on.claim
      ((known.alone own.names (own_names known on.analysed.is)).newline on.line on.claim on.tells) on.tells on.is_line
  due_known {status} {advisers} {turns} {bytes} (refused refusal reason says unasked) = known_refusal (refusal_text refusal status bytes says)
