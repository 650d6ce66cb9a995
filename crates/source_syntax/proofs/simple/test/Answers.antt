use Rattle.std.proofs.Common.{refl}
use Rattle.derivation.specs.declared.symbol.Symbol.TheVariants as Sym
use Rattle.source_syntax.proofs.Steps.{over, fails, failed_on, passed_on, sign_reads, leading_opening_reads, sign_refused, leading_opening_refused}
use Rattle.source_syntax.proofs.Statements.{test_goes}
use Rattle.source_syntax.proofs.simple.test.Goals as goal

pub returns-in_err-inner-clause-refused : goal.returns-in_err-inner-clause-refused
returns-in_err-inner-clause-refused c =
    failed_on _ _ _ c.from_residual.ensures
    (λ count behind. fails (test_goes _ count behind _) (leading_opening_refused _ _ c.in_err-inner.field-0.0 Sym.OpenParenthesis _ (refl, refl) c.in_err-inner.ensures.missed))

pub returns-in_err-tested-clause-refused : goal.returns-in_err-tested-clause-refused
returns-in_err-tested-clause-refused c =
    passed_on _ _ _ _ c.from_residual-in_err-tested.ensures c.in_err-tested.ensures.refused
    (λ fault refused count behind. fails (test_goes _ count behind _) (fails (leading_opening_reads Sym.OpenParenthesis _ (refl, refl) c.in_ok-inner.ensures.read c.in_ok-inner.ensures.shallow) (refused _)))

pub returns-in_err-next-clause-refused : goal.returns-in_err-next-clause-refused
returns-in_err-next-clause-refused c =
    failed_on _ _ _ c.from_residual-in_err-next.ensures
    (λ count behind. fails (test_goes _ count behind _) (fails (leading_opening_reads Sym.OpenParenthesis _ (refl, refl) c.in_ok-inner.ensures.read c.in_ok-inner.ensures.shallow) (fails (c.in_ok-tested.ensures.read _) (sign_refused _ _ c.in_err-next.field-0.0 Sym.CloseParenthesis (refl, refl) c.in_err-next.ensures.missed))))

pub returns-clause-read : goal.returns-clause-read
returns-clause-read c = λ count behind.
    (_, over (test_goes _ count behind _) (over (leading_opening_reads Sym.OpenParenthesis _ (refl, refl) c.in_ok-inner.ensures.read c.in_ok-inner.ensures.shallow) (over (c.in_ok-tested.ensures.read _) (sign_reads Sym.CloseParenthesis (refl, refl) c.in_ok-next.ensures.read))))
