use Rattle.std.proofs.Common.{◌∙◌, sym}
use Rattle.source_syntax.specs.declared.opening.ActionOpening.TheVariants as ActionOpening
use Rattle.source_syntax.proofs.Steps.{over, fails, goes, stuck, lawful, passed_on, sign_reads, leading_reads}
use Rattle.source_syntax.proofs.Statements.{actions, assignment_quiet, step_quiet}
use Rattle.source_syntax.specs.Spelling.{step_sign, assignment_sign}
use Rattle.source_syntax.proofs.Loops.{written}
use Rattle.source_syntax.proofs.simple.action.Goals as goal

pub returns-in_err-value-in-Assigns-clause-refused : goal.returns-in_err-value-in-Assigns-clause-refused
returns-in_err-value-in-Assigns-clause-refused c =
    passed_on _ _ _ _ c.from_residual-in_err-value-in-Assigns.ensures c.in_err-value-in-Assigns.ensures.refused
    (λ fault refused count behind. fails (goes (actions _ behind) count _ (ActionOpening.Assigns c.in-Assigns.assignment) (sym c.in-Assigns.is ∙ c.opening_of_action.ensures)) (fails (leading_reads (assignment_sign c.in-Assigns.assignment) (assignment_quiet c.in-Assigns.assignment) (written _ _ c.in_ok-behind-in-Assigns.ensures.read c.assignment_symbol.ensures)) (refused _)))

pub returns-in_ok-value-in-Assigns-clause-read : goal.returns-in_ok-value-in-Assigns-clause-read
returns-in_ok-value-in-Assigns-clause-read c = λ count behind.
    (_, over (goes (actions _ behind) count _ (ActionOpening.Assigns c.in-Assigns.assignment) (sym c.in-Assigns.is ∙ c.opening_of_action.ensures)) (over (leading_reads (assignment_sign c.in-Assigns.assignment) (assignment_quiet c.in-Assigns.assignment) (written _ _ c.in_ok-behind-in-Assigns.ensures.read c.assignment_symbol.ensures)) (c.in_ok-value-in-Assigns.ensures.read _)))

pub returns-in_ok-next-in-Steps-clause-read : goal.returns-in_ok-next-in-Steps-clause-read
returns-in_ok-next-in-Steps-clause-read c = λ count behind.
    (_, over (goes (actions _ behind) count _ (ActionOpening.Steps c.in-Steps.step) (sym c.in-Steps.is ∙ c.opening_of_action.ensures)) (sign_reads (step_sign c.in-Steps.step) (step_quiet c.in-Steps.step) (written _ _ c.in_ok-next-in-Steps.ensures.read c.step_symbol.ensures)))

pub returns-in-Nothing-clause-refused : goal.returns-in-Nothing-clause-refused
returns-in-Nothing-clause-refused c = λ count behind. stuck (actions _ behind) lawful count _ _ (λ shut. shut) (sym c.in-Nothing.is ∙ c.opening_of_action.ensures)
