-- The proved lines of a report on a program without loops are met by the inputs whose start satisfies the formula.
use Rattle.std.proofs.Common.{List, ◌↔◌, sym, subst}
use Rattle.step_meaning.specs.Run.{start}
use Rattle.ctl_formula.specs.Formulas.{normal}
use Rattle.ctl_formula.specs.Satisfaction.{Sat}
use Rattle.exact_families.specs.Completeness.{IsLoopless}
use Rattle.formula_measures.specs.Measures.{IsWithinMeasures}
use Rattle.report_text.specs.declared.report.Report.{Report}
use Rattle.report_text.specs.Printed.{IsReportText, proved_head}
use Rattle.report_text.specs.Sections.{section_line}
use Rattle.report_text.proofs.Cutting.{KnownTexts as KnownLineTexts, report_sections}
use Rattle.command_words.specs.Order.{Task}
use Rattle.function_top.specs.declared.found.Found.{Found}
use Rattle.function_top.specs.Found.{IsFound}
use Rattle.function_top.specs.Meeting.{MeetsSome, ProvesExactly}
use Rattle.function_top.specs.Shown.{Shows}
use Rattle.function_top.specs.Subject.{Subject}
use Rattle.function_top.proofs.Counted.{line_met, text_met}
use Rattle.function_top.proofs.ProvedLines.{met_by_satisfied}
use Rattle.function_top.specs.Known.{KnownLines, OpenAsLines}
use Rattle.report_text.proofs.Frame.{Bytes}

pub proves_exactly : (subject : Subject) → KnownLines subject.names → OpenAsLines → (task : Task) (found : Found) (report : Report) (text : Bytes)
    → IsFound task subject found → Shows found report → IsReportText subject.names report text → IsLoopless subject.body
    → IsWithinMeasures subject.body (normal subject.formula) → ProvesExactly subject text
proves_exactly subject known opening task found report text finds shows printed loopless within input is_input =
    let texts : KnownLineTexts subject.names = record {
      newline = known.newline;
      opening = λ line condition claim. opening subject.names line condition claim;
    } in
    let cut = report_sections texts report text printed in
    let met = met_by_satisfied task subject found report finds shows loopless within input is_input in
    subst (λ (lines : List Bytes). MeetsSome subject.names input lines ↔ Sat subject.formula (start subject.body input)) (sym (cut (section_line proved_head))) (
      (λ some. met.0 (some.0, line_met subject.names known input some.0 report.proved (printed.texts proved_head) (printed.are proved_head) some.1)),
      (λ sat. let line = met.1 sat in (line.0, text_met subject.names known input line.0 report.proved (printed.texts proved_head) (printed.are proved_head) line.1)),
    )
