use Rattle.std.proofs.Common.{◌≡◌, ◌∙◌, ℕ, ◌+◌, ap, subst}
use Rattle.step_meaning.specs.declared.program.Program.{Program}
use Rattle.step_meaning.specs.Syntax.{size_of, statements}
use Rattle.control_flow.proofs.LabelLaws.{count_of_labels}
use Rattle.report_text.specs.Printed.{IsReportText}
use Rattle.function_top.specs.Explained.{explained, explanation}
use Rattle.function_top.proofs.answer.report_on_found.Goals as goal

pub returns-clause-shows : goal.returns-clause-shows
returns-clause-shows c =
    let shows = c.in_ok-due.ensures.shows in
    let body = statements c.args.graph.now.body in
    let labels : c.labels.result ≡ 1 + size_of body = c.labels.ensures.count ∙ count_of_labels body in (
      shows.0,
      shows.1,
      subst (λ (program : Program). IsReportText program.names shows.0 c.in_ok-due.due.bytes.items) c.program.ensures shows.2,
      shows.3,
      shows.4 ∙ c.in_ok-explanation.ensures
          ∙ ap (λ (n : ℕ). explained c.args.explain (explanation n c.args.found.now.families c.args.advisers c.args.found.now.turns)) labels,
    )
