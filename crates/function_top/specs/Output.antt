-- What is due on a text.
use Rattle.std.specs.Prelude.{◌≡◌, ◌≢◌, ℕ, ◌+◌, ◌<◌, ◌≤◌, ◌⊎◌, List, [], ◌∷◌, ◌++◌, length, Option, None, Some, ⊤}
use Rattle.step_meaning.specs.declared.program.Program.{Program as Parsed}
use Rattle.step_meaning.specs.Outcome.{Store}
use Rattle.step_meaning.specs.Syntax.{size_of}
use Rattle.ctl_formula.specs.Formulas.{Ctl, normal}
use Rattle.normal_form.specs.Operators.{operators}
use Rattle.formula_parse.specs.declared.fault.FormulaFault.{FormulaFault}
use Rattle.formula_parse.specs.Derives.{IsFormulaOf}
use Rattle.formula_parse.specs.FaultOf.{IsFaultOf as IsFormulaFaultOf}
use Rattle.formula_parse.specs.Laws.{numbered as formula_numbered}
use Rattle.source_parse.specs.declared.fault.ParseFault.{ParseFault}
use Rattle.source_parse.specs.Faults.{IsUnitFaultOf, numbered}
use Rattle.source_parse.specs.Derives.{IsUnitText}
use Rattle.call_meaning.specs.declared.unit.Unit.{Unit}
use Rattle.call_inline.specs.declared.fault.InlineFault.{InlineFault}
use Rattle.call_inline.specs.Faults.{IsInlineFault}
use Rattle.control_flow.specs.declared.fault.FlowFault.{FlowFault}
use Rattle.control_flow.specs.declared.fault.FlowFault.TheVariants.{Labels, Conjunctions, Memory}
use Rattle.control_flow.specs.Faults.{IsFlowFault}
use Rattle.line_text.specs.declared.claim.Claim.{Claim}
use Rattle.claim_line.specs.Tells.{Tells}
use Rattle.input_text.specs.Input.{IsInputText}
use Rattle.report_text.specs.declared.line.Line.{Line}
use Rattle.report_text.specs.declared.report.Report.{Report}
use Rattle.report_text.specs.Printed.{IsReportText}
use Rattle.ctl_rounds.specs.Asked.{IsAdvised}
use Rattle.function_top.specs.declared.status.Status.{Status}
use Rattle.function_top.specs.declared.status.Status.TheVariants.{AllInputs, SomeInputs, Words, Program, Formula}
use Rattle.function_top.specs.declared.question.Refusal.{Refusal}
use Rattle.function_top.specs.declared.question.Refusal.TheVariants as R
use Rattle.function_top.specs.declared.found.Found.{Found}
use Rattle.function_top.specs.Asking.{IsInputGiven}
use Rattle.function_top.specs.Explained.{explained, explanation}
use Rattle.function_top.specs.Found.{IsFound}
use Rattle.command_words.specs.Order.{Task}
use Rattle.function_top.specs.OneInput.{IsToldOf}
use Rattle.function_top.specs.ProgramText.{DerivesNone, inline_numbered}
use Rattle.function_top.specs.Refusals.{formula_text, program_text, usage_text}
use Rattle.function_top.specs.Shown.{Shows}
use Rattle.function_top.specs.Subject.{IsSubject, Subject, asked_names}
use Rattle.function_top.specs.Text.{HasGraph, IsParsed}

-- how often advisers are asked where an input is left without a claim: eight times where the normal form of the formula is a whole `A[f U g]`, and
-- else never
abbrev pub AreTurnsFor : Ctl → ℕ → Type 0
AreTurnsFor normal_form turns = (IsAdvised normal_form → turns ≡ 8) × (¬ IsAdvised normal_form → turns ≡ 0)

-- By the task this was found of the text, asking each adviser so many times: the text has this subject, whose program is within the limits, and the normal
-- form of its formula has at most 256 operators.
pub record IsFoundOn (task : Task) (text : List ℕ) (subject : Subject) (found : Found) (turns : ℕ) : Type 0 where
  pub is : IsSubject task text subject
  pub within : HasGraph text subject.own
  pub limited : operators (normal subject.formula) ≤ 256
  pub finds : IsFound task subject found
  pub asked : turns ≡ found.turns

-- This is the report that shows what was found, explained where that is asked for, and these are its bytes; where a line of it is unknown, each of so many
-- advisers was asked as often as they may help.
pub record IsReportOn (task : Task) (text : List ℕ) (subject : Subject) (report : Report) (advisers turns : ℕ) (bytes : List ℕ) : Type 0 where
  pub found : Found
  pub analysed : IsFoundOn task text subject found turns
  pub advised : report.unknown ≢ [] → AreTurnsFor (normal subject.formula) turns
  pub shows : Shows found report
  pub explains : report.explain ≡ explained task.explain (explanation (1 + size_of subject.body) found.families advisers turns)
  pub printed : IsReportText subject.names report bytes

-- The same where one input is asked for, by its text: what is told of the input by what was found, on one line.
pub record IsAnswerOn (task : Task) (text asked : List ℕ) (subject : Subject) (input : Store) (status : Status) (turns : ℕ) (bytes : List ℕ) : Type 0 where
  pub found : Found
  pub analysed : IsFoundOn task text subject found turns
  pub input_is : IsInputText (asked_names subject) asked input
  pub claim : Claim
  pub told : IsToldOf found input status claim
  pub line : List ℕ
  pub tells : Tells subject.names line claim
  pub is_line : bytes ≡ line ++ 10 ∷ []

-- the text is too long, which is told with this number and offset
pub record IsTooLong (text : List ℕ) (number offset : ℕ) : Type 0 where
  pub long : 65536 < length text
  pub number_is : number ≡ 14
  pub offset_is : offset ≡ 65536

-- the text is no program, and its first fault has this number and offset
pub record IsNoProgram (text : List ℕ) (number offset : ℕ) : Type 0 where
  pub short : length text ≤ 65536
  pub none : DerivesNone text
  pub fault : ParseFault
  pub fault_of : IsUnitFaultOf text fault
  pub number_of : numbered fault ≡ Some (number, offset)

-- the number and the offset of a fault of a program's graph
abbrev pub flow_numbered : FlowFault → Option (ℕ × ℕ)
flow_numbered (Labels at count) = Some (12, at)
flow_numbered (Conjunctions at count) = Some (13, at)
flow_numbered (Memory error) = None

-- the text is a program, in which with a body in the place of a call too many levels are open or there are more than 1,024 labels, which is told with this
-- number and offset
pub record IsPastInlining (text : List ℕ) (number offset : ℕ) : Type 0 where
  pub unit : Unit
  pub derived : IsUnitText text unit
  pub fault : InlineFault
  pub fault_of : IsInlineFault fault unit.funcs unit.body
  pub number_of : inline_numbered fault ≡ Some (number, offset)

-- the text is a program with more labels than 1,024 or a test that spreads to more than 64 conjunctions, which is told with this number and offset
pub record IsPastGraph (text : List ℕ) (number offset : ℕ) : Type 0 where
  pub program : Parsed
  pub parsed : IsParsed text program
  pub fault : FlowFault
  pub fault_of : IsFlowFault fault program.body
  pub number_of : flow_numbered fault ≡ Some (number, offset)

abbrev pub IsPastLimits : List ℕ → ℕ → ℕ → Type 0
IsPastLimits text number offset = IsPastInlining text number offset ⊎ IsPastGraph text number offset

-- one input is asked for of the program that the text is; the program is within the limits, but the input's text is that of none over the names of `main`
pub record IsInputRefused (task : Task) (text : List ℕ) : Type 0 where
  pub names : List (List ℕ)
  pub within : HasGraph text names
  pub refused : ¬ IsInputGiven names task.input

-- over the names the formula's text is none, and its first fault has this number and offset
pub record IsNoFormula (names : List (List ℕ)) (formula : List ℕ) (number offset : ℕ) : Type 0 where
  pub none : (f : Ctl) → ¬ IsFormulaOf formula names f
  pub fault : FormulaFault
  pub fault_of : IsFormulaFaultOf formula names fault
  pub number_of : formula_numbered fault ≡ Some (number, offset)

-- over the names the text is a formula, whose normal form has more than 256 operators, which is told with this number and offset
pub record IsLongFormula (names : List (List ℕ)) (formula : List ℕ) (number offset : ℕ) : Type 0 where
  pub meant : Ctl
  pub derived : IsFormulaOf formula names meant
  pub long : 256 < operators (normal meant)
  pub number_is : number ≡ 11
  pub offset_is : offset ≡ 0

-- A formula is asked about, over the names of `main` in the program that the text is; the program is within the limits, and so is the input that is asked for,
-- if one is, but the formula's text is no formula, or one that is too long.
pub record IsFormulaRefused (task : Task) (text : List ℕ) (number offset : ℕ) : Type 0 where
  pub names : List (List ℕ)
  pub within : HasGraph text names
  pub given : IsInputGiven names task.input
  pub formula : List ℕ
  pub asked : task.formula ≡ Some formula
  pub refused : IsNoFormula names formula number offset ⊎ IsLongFormula names formula number offset

-- why by the task nothing is analysed of the text
abbrev pub IsReason : Task → List ℕ → Refusal → Type 0
IsReason task text (R.Program number offset) = IsTooLong text number offset ⊎ IsNoProgram text number offset ⊎ IsPastLimits text number offset
IsReason task text R.Input = IsInputRefused task text
IsReason task text (R.Formula number offset) = IsFormulaRefused task text number offset
IsReason task text R.Memory = ⊤

-- this status and these bytes say so
abbrev pub SaysRefusal : Refusal → Status → List ℕ → Type 0
SaysRefusal (R.Program number offset) status bytes = (status ≡ Program) × (bytes ≡ program_text number offset)
SaysRefusal R.Input status bytes = (status ≡ Words) × (bytes ≡ usage_text)
SaysRefusal (R.Formula number offset) status bytes = (status ≡ Formula) × (bytes ≡ formula_text number offset)
SaysRefusal R.Memory status bytes = ⊥

-- the status is that of a report, or of what is told of one input
abbrev pub IsReport : Status → Type 0
IsReport status = (status ≡ AllInputs) ⊎ (status ≡ SomeInputs)

-- the status of a report with these unknown lines: all inputs exactly where there is none
abbrev pub IsVerdict : Status → List Line → Type 0
IsVerdict status unknown = ((status ≡ AllInputs) × (unknown ≡ [])) ⊎ ((status ≡ SomeInputs) × (unknown ≢ []))

-- These bytes are due on the text by the task, with this status, and each of so many advisers is asked for them so many times: where no input is asked
-- for, a report with its verdict; where one is, what is told of it; or the line of a program's text, of an input's or of a formula's that is refused,
-- asking nothing.
pub data IsDueOn (task : Task) (text : List ℕ) (status : Status) (advisers turns : ℕ) (bytes : List ℕ) : Type 0 where
  reported : (subject : Subject) (report : Report) → task.input ≡ None → IsReportOn task text subject report advisers turns bytes
      → IsVerdict status report.unknown → IsDueOn task text status advisers turns bytes
  answered : (asked : List ℕ) (subject : Subject) (input : Store) → task.input ≡ Some asked → IsAnswerOn task text asked subject input status turns bytes
      → IsDueOn task text status advisers turns bytes
  refused : (refusal : Refusal) → IsReason task text refusal → SaysRefusal refusal status bytes → turns ≡ 0 → IsDueOn task text status advisers turns bytes

-- The text is of at most 65,536 bytes, and past no limit of its bodies in the places of calls and of its graph.
pub record IsWithinLimits (text : List ℕ) : Type 0 where
  pub short : length text ≤ 65536
  pub graph : (number offset : ℕ) → ¬ IsPastLimits text number offset
