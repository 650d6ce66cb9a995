-- The headline: each claim that the command writes is true.
use Rattle.std.specs.Prelude.{◌≡◌, ℕ, List, ◌++◌, Some}
use Rattle.step_meaning.specs.Outcome.{Store}
use Rattle.linear_cons.specs.declared.affine.Affine.{Affine}
use Rattle.line_text.specs.declared.claim.Claim.{Claim}
use Rattle.line_text.specs.Spells.{Spells}
use Rattle.report_text.specs.Sections.{IsWholeLine}
use Rattle.claim_line.specs.Tells.{Tells}
use Rattle.input_text.specs.Input.{IsInputText}
use Rattle.function_top.specs.Call.{Call}
use Rattle.function_top.specs.ProgramText.{IsProgramText}
use Rattle.command_words.specs.declared.order.Domain.{Domain}
use Rattle.command_words.specs.Order.{Ask, Task, analysis, fit}
use Rattle.function_top.specs.Subject.{IsSubject, Subject, asked_names}
use Rattle.function_top.specs.TrueLine.{IsTrueOf, TrueLine}

-- whatever a whole line of the text says over the subject's names is true of the subject
abbrev pub IsTrueText : Subject → List ℕ → Type 0
IsTrueText subject text =
    (line : List ℕ) (condition : List Affine) (claim : Claim) → IsWholeLine text line → Spells subject.names line condition claim
    → TrueLine subject condition claim

-- Where the source told a text with a subject by what the words ask for, whatever a whole line among the bytes that the sink took in the call
-- says is true of that subject, a program and a formula. A write that failed half way is no exception. That no line says a claim in words that
-- `Spells` doesn't know is in `Form`.
abbrev pub Headline : List (List ℕ) → Call → Type 0
Headline words call =
    (task : Task) (text before written : List ℕ) (subject : Subject) → Ask words (analysis task) → call.left ≡ Some text → IsSubject task text subject
    → call.taken ≡ Some before → call.taken_after ≡ Some (before ++ written) → IsTrueText subject written

-- The same by words that ask what fits the numbers of 32 bits: of the program that the text is; no line that is written then speaks of a formula.
abbrev pub FitHeadline : List (List ℕ) → Call → Type 0
FitHeadline words call =
    (domain : Domain) (text before written : List ℕ) (subject : Subject) → Ask words (fit domain) → call.left ≡ Some text
    → IsProgramText text subject.names subject.body → call.taken ≡ Some before → call.taken_after ≡ Some (before ++ written) → IsTrueText subject written

-- whatever a whole line of the text tells that is a claim alone is true of the input
abbrev pub IsTrueAnswer : Subject → Store → List ℕ → Type 0
IsTrueAnswer subject input text =
    (line : List ℕ) (claim : Claim) → IsWholeLine text line → Tells subject.names line claim → IsTrueOf subject claim input

-- The same where one input is asked for, by a text that is one of the program's: whatever claim a whole line is that the sink took in the call is true
-- of that input.
abbrev pub AnswerHeadline : List (List ℕ) → Call → Type 0
AnswerHeadline words call =
    (task : Task) (text before written asked : List ℕ) (subject : Subject) (input : Store) → Ask words (analysis task) → call.left ≡ Some text
    → IsSubject task text subject → task.input ≡ Some asked → IsInputText (asked_names subject) asked input
    → call.taken ≡ Some before → call.taken_after ≡ Some (before ++ written) → IsTrueAnswer subject input written
