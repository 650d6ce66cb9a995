-- What is due where it is asked from which inputs no number of a run leaves 32 bits.
use Rattle.std.specs.Prelude.{◌≡◌, ℕ, List, length}
use Rattle.step_meaning.specs.Outcome.{Store}
use Rattle.step_meaning.specs.declared.program.Program.{Program}
use Rattle.step_meaning.specs.Syntax.{Statements}
use Rattle.decision_tree.specs.declared.affine_rank.AffineRank.{AffineRank}
use Rattle.decision_tree.specs.Plans.{Plan}
use Rattle.function_top.specs.ProgramText.{IsProgramText}
use Rattle.int_fit.specs.Fitting.{AreInts}
use Rattle.int_fit.specs.Narrowing.{narrowed}
use Rattle.fit_check.specs.Safety.{FitsWhere}
use Rattle.report_text.specs.declared.line.Line.{Line}
use Rattle.report_text.specs.Fitting.{AreFitLines, IsFitText}
use Rattle.report_text.specs.Sections.{whole_lines}
use Rattle.command_words.specs.Order.{Task}
use Rattle.function_top.specs.declared.status.Status.{Status}
use Rattle.function_top.specs.declared.question.Refusal.{Refusal}
use Rattle.function_top.specs.Meeting.{MeetsOne}
use Rattle.function_top.specs.Output.{IsReason, IsVerdict, SaysRefusal}
use Rattle.function_top.specs.Text.{IsGraphOf}

-- each input whose variables are numbers of 32 bits meets exactly one line of the text
abbrev pub AreMetByInts : List (List ℕ) → List ℕ → Type 0
AreMetByInts names text = (input : Store) → AreInts (length names) input → MeetsOne names input (whole_lines text)

-- What follows has no part in the headline.

-- These are the bytes of the report on the program that the text is, which is within the limits, with these lines: they are those of a tree that is defined
-- where the runs of the narrowed program fit.
pub record IsFitReportOn (text : List ℕ) (names : List (List ℕ)) (body : Statements) (fits unknown : List Line) (bytes : List ℕ) : Type 0 where
  pub program : IsProgramText text names body
  pub parsed : Program
  pub within : IsGraphOf text parsed
  pub tree : Plan AffineRank
  pub tells : FitsWhere (length names) (narrowed body) tree
  pub lines : AreFitLines (length names) tree fits unknown
  pub printed : IsFitText names fits unknown bytes

-- These bytes are due on the text, with this status, and no adviser is asked for them: a report with its verdict; or the line of a text that is refused, of
-- whose program nothing would be analysed whatever is asked.
pub data IsFitDueOn (text : List ℕ) (status : Status) (turns : ℕ) (bytes : List ℕ) : Type 0 where
  reported : (names : List (List ℕ)) (body : Statements) (fits unknown : List Line) → IsFitReportOn text names body fits unknown bytes
      → IsVerdict status unknown → turns ≡ 0 → IsFitDueOn text status turns bytes
  refused : (refusal : Refusal) → ((task : Task) → IsReason task text refusal) → SaysRefusal refusal status bytes → turns ≡ 0
      → IsFitDueOn text status turns bytes
