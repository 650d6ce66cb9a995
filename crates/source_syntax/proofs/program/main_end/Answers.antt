use Rattle.std.proofs.Common.{refl}
use Rattle.derivation.specs.declared.symbol.Symbol.TheVariants as Sym
use Rattle.source_syntax.proofs.Steps.{over, fails, failed_on, passed_on, sign_reads, sign_refused, opening_reads, opening_refused}
use Rattle.source_syntax.proofs.program.main_end.Goals as goal

pub returns-in_err-inner-clause-refused : goal.returns-in_err-inner-clause-refused
returns-in_err-inner-clause-refused c =
    failed_on _ _ _ c.from_residual.ensures
    (λ count behind. sign_refused _ _ c.in_err-inner.field-0.0 Sym.OpenParenthesis (refl, refl) c.in_err-inner.ensures.missed)

pub returns-in_err-written-clause-refused : goal.returns-in_err-written-clause-refused
returns-in_err-written-clause-refused c =
    failed_on _ _ _ c.from_residual-in_err-written.ensures
    (λ count behind. fails (sign_reads Sym.OpenParenthesis (refl, refl) c.in_ok-inner.ensures.read) (c.in_err-written.ensures.refused _ _))

pub returns-in_err-body-clause-refused : goal.returns-in_err-body-clause-refused
returns-in_err-body-clause-refused c =
    failed_on _ _ _ c.from_residual-in_err-body.ensures
    (λ count behind. fails (sign_reads Sym.OpenParenthesis (refl, refl) c.in_ok-inner.ensures.read) (fails (c.in_ok-written.ensures.read _ _).1
    (opening_refused _ _ c.in_err-body.field-0.0 Sym.OpenBrace _ (refl, refl) c.in_err-body.ensures.missed)))

pub returns-in_err-all-clause-refused : goal.returns-in_err-all-clause-refused
returns-in_err-all-clause-refused c =
    passed_on _ _ _ _ c.from_residual-in_err-all.ensures c.in_err-all.ensures.refused
    (λ fault refused count behind. fails (sign_reads Sym.OpenParenthesis (refl, refl) c.in_ok-inner.ensures.read) (fails (c.in_ok-written.ensures.read _ _).1
    (fails (opening_reads Sym.OpenBrace _ (refl, refl) c.in_ok-body.ensures.read c.in_ok-body.ensures.shallow) (refused _ _))))

pub returns-clause-read : goal.returns-clause-read
returns-clause-read c = λ count behind. (
  _,
  over (sign_reads Sym.OpenParenthesis (refl, refl) c.in_ok-inner.ensures.read) (over (c.in_ok-written.ensures.read _ _).1
      (over (opening_reads Sym.OpenBrace _ (refl, refl) c.in_ok-body.ensures.read c.in_ok-body.ensures.shallow) (c.in_ok-all.ensures.read _ _).1)),
)
