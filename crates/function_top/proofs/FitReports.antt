-- What is due where it is asked what fits is true and has a known form, and which of its lines an input meets.
use Rattle.std.proofs.Common.{◌≡◌, ℕ, List, length, Option, Some, codes, refl, subst}
use Rattle.step_meaning.specs.declared.program.Program.{Program}
use Rattle.step_meaning.specs.Syntax.{Statements, statements}
use Rattle.decision_tree.specs.declared.affine_rank.AffineRank.{AffineRank}
use Rattle.decision_tree.specs.Plans.{Plan}
use Rattle.int_fit.specs.Narrowing.{narrowed}
use Rattle.fit_check.specs.Safety.{IsFitTree}
use Rattle.function_top.specs.ProgramText.{IsProgramText}
use Rattle.report_text.specs.declared.line.Line.{Line}
use Rattle.function_top.specs.declared.status.Status.{Status}
use Rattle.function_top.specs.Fitting.{AreMetByInts, IsFitDueOn, IsFitReportOn, refused, reported}
use Rattle.function_top.specs.Form.{HasKnownLines}
use Rattle.function_top.specs.Known.{KnownLines, KnownTexts}
use Rattle.function_top.specs.Output.{IsReport}
use Rattle.function_top.specs.Refusals.{fault_line, formula_text, program_text, usage_line, usage_text}
use Rattle.function_top.specs.Subject.{Subject}
use Rattle.function_top.specs.Text.{IsRead}
use Rattle.function_top.proofs.Formed.{fit_report_known, formula_known, program_known, usage_known}
use Rattle.function_top.proofs.Headline.{IsRefusalText, of_formula, of_program, refusal_text, refused_otherwise, told_read, usage}
use Rattle.function_top.proofs.MetOnce.{met_by_ints}
use Rattle.function_top.proofs.Truth.{SaysTrue, fit_report_true, formula_silent, program_silent, silent_true, usage_silent}
use Rattle.report_text.proofs.Frame.{Bytes}
use Rattle.function_top.proofs.Written.{EachWhole}

-- a tree of the program as it was read anew is one of the graph's
pub own_tree : (parsed own : Program) (tree : Plan AffineRank) → (parsed.names ≡ own.names) × (statements parsed.body ≡ statements own.body)
    → IsFitTree (length parsed.names) (narrowed (statements parsed.body)) tree → IsFitTree (length own.names) (narrowed (statements own.body)) tree
own_tree parsed own tree same fits =
    subst (λ (body : Statements). IsFitTree (length own.names) (narrowed body) tree) same.1
    (subst (λ (names : List Bytes). IsFitTree (length names) (narrowed (statements parsed.body)) tree) same.0 fits)

-- no adviser is asked
pub fit_turns : {text : Bytes} {status : Status} {turns : ℕ} {bytes : Bytes} → IsFitDueOn text status turns bytes → turns ≡ 0
fit_turns (reported names body fits unknown on verdict unasked) = unasked
fit_turns (refused refusal reason says unasked) = unasked

module _ (known : KnownTexts) (text : Bytes) where
  own_lines : (names : List Bytes) (body : Statements) → IsProgramText text names body → KnownLines names
  own_lines names body is = known.lines names (known.named text names body is)

  -- a report is on the program that is given
  own_report : {own names : List Bytes} {its body : Statements} {fits unknown : List Line} {bytes : Bytes} → IsProgramText text names body
      → IsFitReportOn text own its fits unknown bytes → IsFitReportOn text names body fits unknown bytes
  own_report {own} {names} {its} {body} {fits} {unknown} {bytes} is on =
      let same = known.unique text own names its body on.program is in
      subst (λ b. IsFitReportOn text names b fits unknown bytes) same.1 (subst (λ n. IsFitReportOn text n its fits unknown bytes) same.0 on)

  module _ (subject : Subject) (is : IsProgramText text subject.names subject.body) where
    true_refusal : {bytes : Bytes} → IsRefusalText bytes → EachWhole (SaysTrue subject) bytes
    true_refusal usage = silent_true subject known.opening usage_line usage_text usage_silent refl
    true_refusal (of_program number offset) =
        silent_true subject known.opening (fault_line (codes "program") number offset) (program_text number offset) (program_silent number offset) refl
    true_refusal (of_formula number offset) =
        silent_true subject known.opening (fault_line (codes "formula") number offset) (formula_text number offset) (formula_silent number offset) refl

    pub fit_due_true : {status : Status} {turns : ℕ} {bytes : Bytes} → IsFitDueOn text status turns bytes → EachWhole (SaysTrue subject) bytes
    fit_due_true {status} {turns} {bytes} (reported names body fits unknown on verdict unasked) =
        let here = own_report is on in
        fit_report_true subject known.opening (own_lines subject.names subject.body is) here.tree fits unknown bytes here.tells here.lines here.printed
    fit_due_true {status} {turns} {bytes} (refused refusal reason says unasked) = true_refusal (refusal_text refusal status bytes says)

  -- each input of such numbers meets one line of what is due with the status of a report
  pub fit_due_met : {names : List Bytes} {body : Statements} {status : Status} {turns : ℕ} {bytes : Bytes} → IsProgramText text names body → IsReport status
      → IsFitDueOn text status turns bytes → AreMetByInts names bytes
  fit_due_met {names} {body} {status} {turns} {bytes} is report (reported own its fits unknown on verdict unasked) =
      let here = own_report is on in
      met_by_ints names (own_lines names body is) known.opening here.tree fits unknown bytes here.lines here.printed
  fit_due_met {names} {body} {status} {turns} {bytes} is report (refused refusal reason says unasked) =
      absurd (refused_otherwise refusal status bytes says report)

  -- ---- its form

  module _ (left : Option Bytes) (read : IsRead left text) where
    declared_names : {names : List Bytes} {body : Statements} → IsProgramText text names body → (told : Bytes) (declared : List Bytes) (other : Statements)
        → left ≡ Some told → IsProgramText told declared other → names ≡ declared
    declared_names {names} {body} is told declared other left_is own =
        (known.unique text names declared body other is
        (subst (λ t. IsProgramText t declared other) (told_read left text told read left_is) own)).0

    known_refusal : {bytes : Bytes} → IsRefusalText bytes → HasKnownLines left bytes
    known_refusal usage = usage_known left
    known_refusal (of_program number offset) = program_known left number offset
    known_refusal (of_formula number offset) = formula_known left number offset

    pub fit_due_known : {status : Status} {turns : ℕ} {bytes : Bytes} → IsFitDueOn text status turns bytes → HasKnownLines left bytes
    fit_due_known {status} {turns} {bytes} (reported names body fits unknown on verdict unasked) =
        fit_report_known left names (own_lines names body on.program) (declared_names on.program) fits unknown bytes on.printed
    fit_due_known {status} {turns} {bytes} (refused refusal reason says unasked) = known_refusal (refusal_text refusal status bytes says)
