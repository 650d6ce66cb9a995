-- Each line that the command writes has one of the known forms.
use Rattle.std.proofs.Common.{◌≡◌, ℕ, inl, inr, List, [], ◌∷◌, ◌++◌, Option, Some, All, codes, refl}
use Rattle.std.proofs.lemmas.List.Elements.{All-cons, All-nil}
use Rattle.step_meaning.specs.Syntax.{Statements}
use Rattle.function_top.specs.ProgramText.{IsProgramText}
use Rattle.linear_solve.proofs.Lists.{all_of}
use Rattle.line_text.specs.declared.claim.Claim.{Claim}
use Rattle.line_text.specs.LineText.{functions_of}
use Rattle.claim_line.specs.Tells.{Tells}
use Rattle.report_text.specs.declared.line.Line.{Line}
use Rattle.report_text.specs.declared.report.Report.{Report}
use Rattle.report_text.specs.declared.report.Header.{Header}
use Rattle.report_text.specs.Printed.{IsReportText, ended_lines, exact_part, explain_part, lines_under}
use Rattle.function_top.specs.declared.found.Found.{Found}
use Rattle.function_top.specs.Demo.{summary_lines}
use Rattle.report_text.specs.Fitting.{IsFitText}
use Rattle.function_top.specs.Form.{IsKnown, exact_head, explanation, fits_head, section, summary, all_verdict, some_verdict, words, program, formula}
use Rattle.function_top.specs.Refusals.{fault_line, formula_text, program_text, usage_line, usage_text}
use Rattle.function_top.specs.Shown.{Shows}
use Rattle.function_top.specs.Known.{KnownLines}
use Rattle.function_top.proofs.Truth.{formula_silent, program_silent, usage_silent}
use Rattle.report_text.proofs.Frame.{Bytes, Lacks, free_lacks}
use Rattle.function_top.proofs.Written.{EachWhole, Frames, Prints, each_good, fit_report_holds, one_good, report_holds, summary_lacks}

module _ (left : Option Bytes) where
  pub usage_known : EachWhole (IsKnown left) usage_text
  usage_known = one_good (IsKnown left) usage_line usage_text (free_lacks usage_line usage_silent.free) (inr (inr words)) refl

  pub program_known : (number offset : ℕ) → EachWhole (IsKnown left) (program_text number offset)
  program_known number offset =
      one_good (IsKnown left) (fault_line (codes "program") number offset) (program_text number offset)
      (free_lacks (fault_line (codes "program") number offset) (program_silent number offset).free) (inr (inr (program number offset))) refl

  pub formula_known : (number offset : ℕ) → EachWhole (IsKnown left) (formula_text number offset)
  formula_known number offset =
      one_good (IsKnown left) (fault_line (codes "formula") number offset) (formula_text number offset)
      (free_lacks (fault_line (codes "formula") number offset) (formula_silent number offset).free) (inr (inr (formula number offset))) refl

  -- a claim alone
  pub claim_known : (names : List Bytes)
      → ((text : Bytes) (declared : List Bytes) (body : Statements) → left ≡ Some text → IsProgramText text declared body → names ≡ declared)
      → (line text : Bytes) (claim : Claim) → Lacks line → Tells names line claim → text ≡ line ++ 10 ∷ [] → EachWhole (IsKnown left) text
  claim_known names own line text claim lacks tells is =
      one_good (IsKnown left) line text lacks (inl (record { names = names; says = inr record { claim = claim; tells = tells }; own = own })) is

  -- the summary of a demo program
  pub summary_known : (number bytes labels proved : ℕ) (text : Bytes) → text ≡ ended_lines (summary_lines number bytes labels proved)
      → EachWhole (IsKnown left) text
  summary_known number bytes labels proved text is =
      each_good (IsKnown left) (summary_lines number bytes labels proved) text
      (λ k d low. record {
        lacking = summary_lacks number bytes labels proved k d low;
        holds = all_of (IsKnown left) (summary_lines number bytes labels proved)
            (λ line member. inr (inl (summary number bytes labels proved line member))) k d low;
      }) is

  header_known : (header : Header) → All (IsKnown left) (exact_part header [])
  header_known header = all_of (IsKnown left) (exact_part header []) (λ line member. inr (inl (exact_head header line member)))

  frames : Frames (IsKnown left)
  frames = record {
    exact = header_known;
    explanation = λ explain. all_of (IsKnown left) (explain_part (Some explain)) (λ line member. inr (inl (explanation explain line member)));
    each_head = λ head. inr (inl (section head));
    all_inputs = inr (inl all_verdict);
    some_inputs = inr (inl some_verdict);
  }

  module _ (names : List Bytes) (known : KnownLines names)
      (own : (text : Bytes) (declared : List Bytes) (body : Statements) → left ≡ Some text → IsProgramText text declared body → names ≡ declared) where
    spoken : (line : Line) → Prints (IsKnown left) frames names known.newline line
    spoken line text is =
        inl (record { names = names; says = inl record { condition = functions_of is.condition; claim = line.claim; spells = is.spells }; own = own })

    all_spoken : (lines : List Line) → All (Prints (IsKnown left) frames names known.newline) lines
    all_spoken [] = All-nil (Prints (IsKnown left) frames names known.newline)
    all_spoken (line ∷ more) = All-cons (Prints (IsKnown left) frames names known.newline) line more (spoken line) (all_spoken more)

    pub report_known : (found : Found) (report : Report) (text : Bytes) → Shows found report → IsReportText names report text
        → EachWhole (IsKnown left) text
    report_known found report text shows printed =
        report_holds (IsKnown left) frames names known.newline report text (all_spoken report.exact) (λ head. all_spoken (lines_under head report)) printed

    pub fit_report_known : (fits unknown : List Line) (text : Bytes) → IsFitText names fits unknown text → EachWhole (IsKnown left) text
    fit_report_known fits unknown text printed =
        fit_report_holds (IsKnown left) frames names known.newline (inr (inl fits_head)) fits unknown text (all_spoken fits) (all_spoken unknown) printed
