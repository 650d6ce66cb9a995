use Rattle.std.proofs.Common.{refl}
use Rattle.derivation.specs.declared.symbol.Symbol.TheVariants as Sym
use Rattle.source_syntax.proofs.Steps.{over, fails, failed_on, passed_on, sign_reads, sign_refused}
use Rattle.source_syntax.proofs.statement.head_of_for.Goals as goal

pub returns-in_err-first-clause-refused : goal.returns-in_err-first-clause-refused
returns-in_err-first-clause-refused c =
    failed_on _ _ _ c.from_residual.ensures
    (λ count behind. sign_refused _ _ c.in_err-first.field-0.0 Sym.OpenParenthesis (refl, refl) c.in_err-first.ensures.missed)

pub returns-in_err-start-clause-refused : goal.returns-in_err-start-clause-refused
returns-in_err-start-clause-refused c =
    passed_on _ _ _ _ c.from_residual-in_err-start.ensures c.in_err-start.ensures.refused
    (λ fault refused count behind. fails (sign_reads Sym.OpenParenthesis (refl, refl) c.in_ok-first.ensures.read) (refused _ _))

pub returns-in_err-test-clause-refused : goal.returns-in_err-test-clause-refused
returns-in_err-test-clause-refused c =
    passed_on _ _ _ _ c.from_residual-in_err-test.ensures c.in_err-test.ensures.refused
    (λ fault refused count behind. fails (sign_reads Sym.OpenParenthesis (refl, refl) c.in_ok-first.ensures.read) (fails (c.in_ok-start.ensures.read _ _) (refused _)))

pub returns-in_err-step-clause-refused : goal.returns-in_err-step-clause-refused
returns-in_err-step-clause-refused c =
    passed_on _ _ _ _ c.from_residual-in_err-step.ensures c.in_err-step.ensures.refused
    (λ fault refused count behind. fails (sign_reads Sym.OpenParenthesis (refl, refl) c.in_ok-first.ensures.read) (fails (c.in_ok-start.ensures.read _ _) (fails (c.in_ok-test.ensures.read _).1 (refused _ _))))

pub returns-clause-read : goal.returns-clause-read
returns-clause-read c = λ count behind.
    (_, over (sign_reads Sym.OpenParenthesis (refl, refl) c.in_ok-first.ensures.read) (over (c.in_ok-start.ensures.read _ _) (over (c.in_ok-test.ensures.read _).1 (c.in_ok-step.ensures.read _ _).1)))
