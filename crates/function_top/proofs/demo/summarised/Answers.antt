use Rattle.std.proofs.Common.{rules, ◌≡◌, ◌∙◌, List, ℕ, ◌+◌, length, ap, ap₂, refl, subst, arith}
use Rattle.ctl_rounds.proofs.Asking.{unasked}
use Rattle.step_meaning.specs.Syntax.{Statements}
use Rattle.control_flow.specs.Labels.{all_labels}
use Rattle.ctl_formula.specs.Formulas.{af_exit}
use Rattle.report_text.specs.Printed.{ended_lines}
use Rattle.demo_program.specs.Demo.{demo_names, demo_text}
use Rattle.function_top.specs.Demo.{defaults, demo_subject, summary_lines}
use Rattle.function_top.specs.Found.{IsFound}
use Rattle.function_top.specs.Subject.{Subject, subject_of}
use Rattle.function_top.proofs.Certain.{covered}
use Rattle.function_top.proofs.demo.summarised.Goals as goal

pub returns-in_err-formula-clause-asked : goal.returns-in_err-formula-clause-asked
returns-in_err-formula-clause-asked g c = (0, omega (arith), unasked (λ a. (goal.Adviser-dyn g (a.vtable, a.value)).asked_of a.value) c.args.advisers.now.items, search rules)

pub returns-clause-due : goal.returns-clause-due
returns-clause-due g c =
    let number = c.args.number in
    let found = c.in_ok-found.found in
    let same : subject_of c.args.graph.now demo_names af_exit ≡ demo_subject number =
    ap₂ (λ (names : List (List ℕ)) (body : Statements). record { names = names; own = demo_names; body = body; formula = af_exit }) c.requires.names c.requires.body in
    let finds : IsFound defaults (demo_subject number) found =
    subst (λ (s : Subject). IsFound defaults s found) same (c.in_ok-found.ensures.finds demo_names af_exit c.in_ok-formula.ensures) in
    let labels : c.labels.result ≡ number + 3 =
    c.labels.ensures.count ∙ ap (λ (body : Statements). length (all_labels body)) c.requires.body ∙ c.demo_programs_have_few_labels.ensures number in
    record {
      found = found;
      finds = finds;
      asked = refl;
      report = c.in_ok-report.report;
      shows = c.in_ok-report.ensures.shows;
      covers = covered defaults (demo_subject number) found c.in_ok-report.report finds c.in_ok-report.ensures.shows refl
          (c.demo_programs_count_down.ensures number c.requires.few);
      is = c.in_ok-summary.ensures
          ∙ ap (λ (n : ℕ). ended_lines (summary_lines number n c.labels.result (length c.in_ok-report.report.proved))) c.requires.bytes
          ∙ ap (λ (n : ℕ). ended_lines (summary_lines number (length (demo_text number)) n (length c.in_ok-report.report.proved))) labels;
    }
