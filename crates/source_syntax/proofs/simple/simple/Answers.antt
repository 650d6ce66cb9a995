use Rattle.std.proofs.Common.{◌∙◌, sym}
use Rattle.source_syntax.specs.declared.opening.SimpleOpening.TheVariants as SimpleOpening
use Rattle.source_syntax.proofs.Steps.{over, fails, goes, stuck, lawful, passed_on, sign_at_reads, name_reads, name_refused}
use Rattle.source_syntax.proofs.Statements.{simples, step_quiet}
use Rattle.source_syntax.specs.Spelling.{step_sign}
use Rattle.source_syntax.proofs.Loops.{written}
use Rattle.source_syntax.proofs.simple.simple.Goals as goal

pub returns-in_err-bytes-in-Name-clause-refused : goal.returns-in_err-bytes-in-Name-clause-refused
returns-in_err-bytes-in-Name-clause-refused c =
    passed_on _ _ _ _ c.from_residual.ensures c.in_err-bytes-in-Name.ensures.missed
    (λ fault missed count behind. fails (goes (simples _ behind) count _ SimpleOpening.Name (sym c.in-Name.is ∙ c.opening_of_simple.ensures)) (name_refused _ _ fault missed))

pub returns-in_err-action-in-Name-clause-refused : goal.returns-in_err-action-in-Name-clause-refused
returns-in_err-action-in-Name-clause-refused c =
    passed_on _ _ _ _ c.from_residual-in_err-action-in-Name.ensures c.in_err-action-in-Name.ensures.refused
    (λ fault refused count behind. fails (goes (simples _ behind) count _ SimpleOpening.Name (sym c.in-Name.is ∙ c.opening_of_simple.ensures)) (fails (name_reads c.in_ok-bytes-in-Name.ensures.read) (refused _ _)))

pub returns-in_ok-action-in-Name-clause-read : goal.returns-in_ok-action-in-Name-clause-read
returns-in_ok-action-in-Name-clause-read c = λ count behind.
    (_, over (goes (simples _ behind) count _ SimpleOpening.Name (sym c.in-Name.is ∙ c.opening_of_simple.ensures)) (over (name_reads c.in_ok-bytes-in-Name.ensures.read) (c.in_ok-action-in-Name.ensures.read _ _).1))

pub returns-in_err-bytes-in-Steps-clause-refused : goal.returns-in_err-bytes-in-Steps-clause-refused
returns-in_err-bytes-in-Steps-clause-refused c =
    passed_on _ _ _ _ c.from_residual-in_err-bytes-in-Steps.ensures c.in_err-bytes-in-Steps.ensures.missed
    (λ fault missed count behind. fails (goes (simples _ behind) count _ (SimpleOpening.Steps c.in-Steps.step) (sym c.in-Steps.is ∙ c.opening_of_simple.ensures)) (fails (sign_at_reads (step_sign c.in-Steps.step) (step_quiet c.in-Steps.step) (written _ _ c.in_ok-behind-in-Steps.ensures.read c.step_symbol.ensures)) (name_refused _ _ fault missed)))

pub returns-in_ok-bytes-in-Steps-clause-read : goal.returns-in_ok-bytes-in-Steps-clause-read
returns-in_ok-bytes-in-Steps-clause-read c = λ count behind.
    (_, over (goes (simples _ behind) count _ (SimpleOpening.Steps c.in-Steps.step) (sym c.in-Steps.is ∙ c.opening_of_simple.ensures)) (over (sign_at_reads (step_sign c.in-Steps.step) (step_quiet c.in-Steps.step) (written _ _ c.in_ok-behind-in-Steps.ensures.read c.step_symbol.ensures)) (name_reads c.in_ok-bytes-in-Steps.ensures.read)))

pub returns-in-Nothing-clause-refused : goal.returns-in-Nothing-clause-refused
returns-in-Nothing-clause-refused c = λ count behind. stuck (simples _ behind) lawful count _ _ (λ shut. shut) (sym c.in-Nothing.is ∙ c.opening_of_simple.ensures)
