use Rattle.std.proofs.Common.{refl}
use Rattle.step_meaning.specs.Syntax.{statements}
use Rattle.decision_tree.specs.Plans.{plan_of}
use Rattle.report_text.proofs.FitLines.{fit_lines_over}
use Rattle.function_top.specs.Fitting.{reported}
use Rattle.function_top.proofs.FitReports.{own_tree}
use Rattle.function_top.proofs.fitting.due_over.Goals as goal

pub print_fit-requires-clause-fits : goal.print_fit-requires-clause-fits
print_fit-requires-clause-fits g c =
    let own = c.args.graph.now in
    let parsed = c.in-Ok.whole.program in
    let same = c.texts_are_known.ensures.unique c.args.text.now parsed.names own.names (statements parsed.body) (statements own.body)
    c.in-Ok.ensures.parsed.derived c.requires.parsed.derived in
    let fit = own_tree parsed own (plan_of c.in_ok-tree.tree) same c.in_ok-tree.ensures in
    let lines = fit_lines_over own.names own.valid.few c.vars.result (plan_of c.in_ok-tree.tree) _ _ fit.over c.in_ok-fits.ensures in
    rw c.program-program.ensures lines.0

pub print_fit-requires-clause-unknown : goal.print_fit-requires-clause-unknown
print_fit-requires-clause-unknown g c =
    let own = c.args.graph.now in
    let parsed = c.in-Ok.whole.program in
    let same = c.texts_are_known.ensures.unique c.args.text.now parsed.names own.names (statements parsed.body) (statements own.body)
    c.in-Ok.ensures.parsed.derived c.requires.parsed.derived in
    let fit = own_tree parsed own (plan_of c.in_ok-tree.tree) same c.in_ok-tree.ensures in
    let lines = fit_lines_over own.names own.valid.few c.vars.result (plan_of c.in_ok-tree.tree) _ _ fit.over c.in_ok-fits.ensures in
    rw c.program-program.ensures lines.1

pub returns : goal.returns
returns g c =
    let own = c.args.graph.now in
    let parsed = c.in-Ok.whole.program in
    let same = c.texts_are_known.ensures.unique c.args.text.now parsed.names own.names (statements parsed.body) (statements own.body)
    c.in-Ok.ensures.parsed.derived c.requires.parsed.derived in
    let fit = own_tree parsed own (plan_of c.in_ok-tree.tree) same c.in_ok-tree.ensures in
    reported own.names (statements own.body) _ _ (record {
      program = c.requires.parsed.derived;
      parsed = own;
      within = c.requires;
      tree = plan_of c.in_ok-tree.tree;
      tells = fit.fits;
      lines = rw (c.vars.ensures, c.program-program.ensures) at c.in_ok-fits.ensures;
      printed = rw c.program-program.ensures at c.in_ok-bytes.ensures;
    }) c.verdict.ensures refl
