-- What each status of the command says.
use Rattle.std.specs.Prelude.{◌≡◌, ℕ, ◌≤◌, ◌⊎◌, List, Some, length}
use Rattle.std.specs.Io.KnownBytes.{Appends, Keeps}
use Rattle.outside.specs.Faults.{Rose}
use Rattle.outside.specs.Sink.{AppendsFront, WritesOrFails}
use Rattle.ctl_formula.specs.Formulas.{normal}
use Rattle.normal_form.specs.Operators.{operators}
use Rattle.ctl_rounds.specs.Asked.{RoseBy}
use Rattle.function_top.specs.declared.status.Status.{Status}
use Rattle.function_top.specs.declared.status.Status.TheVariants.{AllInputs, SomeInputs, Words, Program, Formula, ReadFault, WriteFault, NoMemory}
use Rattle.function_top.specs.Asking.{IsInputGiven}
use Rattle.function_top.specs.Call.{Call}
use Rattle.function_top.specs.Demo.{IsDemoDue}
use Rattle.function_top.specs.Output.{IsDueOn, IsReport, IsWithinLimits}
use Rattle.function_top.specs.Form.{Form}
use Rattle.function_top.specs.Fitting.{AreMetByInts, IsFitDueOn}
use Rattle.function_top.specs.Framed.{FramedAnswerHeadline, FramedHeadline}
use Rattle.function_top.specs.Headline.{AnswerHeadline, FitHeadline, Headline}
use Rattle.function_top.specs.ProgramText.{IsProgramText}
use Rattle.step_meaning.specs.Syntax.{Statements}
use Rattle.command_words.specs.declared.order.Domain.{Domain}
use Rattle.command_words.specs.Order.{Accepted, Ask, Request, Task, analysis, demo, fit}
use Rattle.function_top.specs.Refusals.{usage_text}
use Rattle.function_top.specs.Says.{Says}
use Rattle.function_top.specs.Subject.{IsSubject, Subject, asked_names}
use Rattle.function_top.specs.Text.{IsRead}

-- the status where a write of what was due with this status failed: a report has one of its own
abbrev pub after_failing : Status → Status
after_failing AllInputs = WriteFault
after_failing SomeInputs = WriteFault
after_failing Words = Words
after_failing Program = Program
after_failing Formula = Formula
after_failing ReadFault = ReadFault
after_failing WriteFault = WriteFault
after_failing NoMemory = NoMemory

-- These bytes are due by what is asked for, with this status, and each adviser is asked for them so many times: by an analysis, on the text that was read;
-- by a demo program a summary, for which nothing is read; where it is asked what fits, on the text that was read, for which no adviser is asked.
abbrev pub IsDueBy : Request → Call → Status → ℕ → List ℕ → Type 0
IsDueBy (analysis task) call status turns bytes =
    (text : List ℕ) × IsRead call.left text × IsDueOn task text status (length call.asked) turns bytes
IsDueBy (demo number) call status turns bytes = (status ≡ AllInputs) × IsDemoDue number turns bytes
IsDueBy (fit domain) call status turns bytes = (text : List ℕ) × IsRead call.left text × IsFitDueOn text status turns bytes

-- the bytes are those that are due, with this status, by what the words ask for, and no read failed
pub record WasDue (words : List (List ℕ)) (call : Call) (status : Status) (bytes : List ℕ) : Type 0 where
  pub request : Request
  pub asked : Ask words request
  pub faultless : call.read_faults_after ≡ call.read_faults
  pub turns : ℕ
  pub due : IsDueBy request call status turns bytes
  pub rose : RoseBy (λ times. times) turns call.asked call.asked_after

-- the bytes were written whole; or a write failed, and a front of them was written
abbrev pub Writes : Call → List ℕ → Type 0
Writes call bytes = WritesOrFails call.taken call.taken_after call.write_faults call.write_faults_after bytes

-- What a call of this status did. A report, what is told of one input, or the summary of a demo program was written whole, with the status that goes
-- with it; where a write failed, a front of it. Words, the text of a program, of an input or of a formula that are refused got their line, or a front
-- of it where a write failed. Behind a failed read, and where memory ran out, nothing was written.
abbrev pub Answers : List (List ℕ) → Status → Call → Type 0
Answers words AllInputs call = (bytes : List ℕ) × WasDue words call AllInputs bytes × Appends call.taken call.taken_after bytes
Answers words SomeInputs call = (bytes : List ℕ) × WasDue words call SomeInputs bytes × Appends call.taken call.taken_after bytes
Answers words Words call = ((¬ Accepted words) ⊎ WasDue words call Words usage_text) × Writes call usage_text
Answers words Program call = (bytes : List ℕ) × WasDue words call Program bytes × Writes call bytes
Answers words Formula call = (bytes : List ℕ) × WasDue words call Formula bytes × Writes call bytes
Answers words ReadFault call = Rose call.read_faults call.read_faults_after × Keeps call.taken call.taken_after
Answers words WriteFault call =
    (bytes : List ℕ) × (WasDue words call AllInputs bytes ⊎ WasDue words call SomeInputs bytes)
    × AppendsFront call.taken call.taken_after bytes × Rose call.write_faults call.write_faults_after
Answers words NoMemory call = (call.read_faults_after ≡ call.read_faults) × Keeps call.taken call.taken_after

-- By words that ask for an analysis a text with a subject gets its report, or what is told of the input that is asked for, where the text is within
-- the limits, the text of an input, if there is one, is that of one of the program, the normal form of the formula has at most 256 operators, as that
-- of `AF exit` has, no count of faults rose and memory didn't run out.
abbrev pub IsComplete : List (List ℕ) → Status → Call → Type 0
IsComplete words status call =
    (task : Task) (text : List ℕ) (subject : Subject) → Ask words (analysis task) → call.left ≡ Some text → IsSubject task text subject → IsWithinLimits text
    → IsInputGiven (asked_names subject) task.input → operators (normal subject.formula) ≤ 256
    → ¬ Rose call.read_faults call.read_faults_after → ¬ Rose call.write_faults call.write_faults_after
    → (status ≡ AllInputs) ⊎ (status ≡ SomeInputs) ⊎ (status ≡ NoMemory)

-- A demo program gets its summary, which covers all inputs, where no count of faults of the sink rose and memory didn't run out.
abbrev pub CoversDemos : List (List ℕ) → Status → Call → Type 0
CoversDemos words status call =
    (number : ℕ) → Ask words (demo number) → ¬ Rose call.write_faults call.write_faults_after → (status ≡ AllInputs) ⊎ (status ≡ NoMemory)

-- By words that ask for an analysis of a text with a subject, where the status is that of a report, bytes were written whole that say all that a report on it
-- says, or what is told of the input.
abbrev pub SaysAll : List (List ℕ) → Status → Call → Type 0
SaysAll words status call =
    (task : Task) (text : List ℕ) (subject : Subject) → Ask words (analysis task) → call.left ≡ Some text → IsSubject task text subject → IsReport status
    → (bytes : List ℕ) × Appends call.taken call.taken_after bytes × Says task subject status bytes

-- By words that ask what fits a text that is a program within the limits gets its report where no count of faults rose and memory didn't run out.
abbrev pub IsFitComplete : List (List ℕ) → Status → Call → Type 0
IsFitComplete words status call =
    (domain : Domain) (text : List ℕ) (names : List (List ℕ)) (body : Statements) → Ask words (fit domain) → call.left ≡ Some text
    → IsProgramText text names body → IsWithinLimits text → ¬ Rose call.read_faults call.read_faults_after → ¬ Rose call.write_faults call.write_faults_after
    → (status ≡ AllInputs) ⊎ (status ≡ SomeInputs) ⊎ (status ≡ NoMemory)

-- Where the status is that of a report, bytes were written whole of which each input of 32-bit numbers meets exactly one line.
abbrev pub SaysWhatFits : List (List ℕ) → Status → Call → Type 0
SaysWhatFits words status call =
    (domain : Domain) (text : List ℕ) (names : List (List ℕ)) (body : Statements) → Ask words (fit domain) → call.left ≡ Some text
    → IsProgramText text names body → IsReport status → (bytes : List ℕ) × Appends call.taken call.taken_after bytes × AreMetByInts names bytes

-- All that is said of a call of the command with these words that ended with this status.
pub record IsRun (words : List (List ℕ)) (status : Status) (call : Call) : Type 0 where
  pub headline : Headline words call
  pub answer : AnswerHeadline words call
  pub framed : FramedHeadline words call
  pub framed_answer : FramedAnswerHeadline words call
  pub form : Form call
  pub answers : Answers words status call
  pub refuses : ¬ Accepted words → (status ≡ Words) ⊎ (status ≡ NoMemory)
  pub complete : IsComplete words status call
  pub says : SaysAll words status call
  pub demos : CoversDemos words status call
  pub fit_headline : FitHeadline words call
  pub fit_complete : IsFitComplete words status call
  pub says_what_fits : SaysWhatFits words status call
