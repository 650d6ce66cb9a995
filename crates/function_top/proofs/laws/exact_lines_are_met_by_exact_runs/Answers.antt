use Rattle.std.proofs.Common.{length, subst}
use Rattle.decision_tree.specs.Plans.{plan_of}
use Rattle.function_top.specs.Shown.{ShowsExact}
use Rattle.function_top.proofs.ExactLines.{made_exact, met_by_runs}
use Rattle.function_top.proofs.laws.exact_lines_are_met_by_exact_runs.Goals as goal

pub returns : goal.returns
returns c task subject found report finds shows tests stop tree is input is_input n =
    let exact = made_exact task.formula subject task.delay found.exact tests stop tree finds.exactness.part is in
    let shown = subst (λ e. ShowsExact e report.header report.exact) is shows.exact in
    met_by_runs (length subject.names) subject.body tests (plan_of tree) exact.2 shown.1.0 report.exact shown.1.1 shown.1.2 input is_input n
