use Rattle.std.proofs.Common.{Some, refl}
use Rattle.function_top.proofs.FitReports.{fit_due_known, fit_due_met, fit_due_true}
use Rattle.function_top.proofs.fitting.fit_report_on.Goals as goal

pub returns-clause-headline : goal.returns-clause-headline
returns-clause-headline c subject is line condition claim whole spells =
    fit_due_true c.texts_are_known.ensures c.args.text.now subject is c.in_ok-due.ensures line whole condition claim spells

pub returns-clause-form : goal.returns-clause-form
returns-clause-form c = fit_due_known c.texts_are_known.ensures c.args.text.now (Some c.args.text.now) refl c.in_ok-due.ensures

pub returns-clause-met : goal.returns-clause-met
returns-clause-met c report names body is = fit_due_met c.texts_are_known.ensures c.args.text.now is report c.in_ok-due.ensures
