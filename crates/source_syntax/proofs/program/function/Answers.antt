use Rattle.std.proofs.Common.{refl}
use Rattle.derivation.specs.declared.symbol.Symbol.TheVariants as Sym
use Rattle.source_syntax.proofs.Steps.{over, fails, held, failed_on, passed_on, sign_reads, sign_refused, opening_reads, opening_refused, name_reads, name_refused}
use Rattle.source_syntax.proofs.Expressions.{places}
use Rattle.source_syntax.proofs.program.function.Goals as goal

pub returns-in_err-bytes-clause-refused : goal.returns-in_err-bytes-clause-refused
returns-in_err-bytes-clause-refused c =
    passed_on _ _ _ _ c.from_residual.ensures c.in_err-bytes.ensures.missed
    (λ fault missed count behind. name_refused _ _ fault missed)

pub returns-in_err-inner-clause-refused : goal.returns-in_err-inner-clause-refused
returns-in_err-inner-clause-refused c =
    failed_on _ _ _ c.from_residual-in_err-inner.ensures
    (λ count behind. fails (name_reads c.in_ok-bytes.ensures.read) (sign_refused _ _ c.in_err-inner.field-0.0 Sym.OpenParenthesis (refl, refl) c.in_err-inner.ensures.missed))

pub returns-in_err-parameters-clause-refused : goal.returns-in_err-parameters-clause-refused
returns-in_err-parameters-clause-refused c =
    passed_on _ _ _ _ c.from_residual-in_err-parameters.ensures c.in_err-parameters.ensures.refused
    (λ fault refused count behind. fails (name_reads c.in_ok-bytes.ensures.read) (fails (sign_reads Sym.OpenParenthesis (refl, refl) c.in_ok-inner.ensures.read) (refused _ _)))

pub returns-in_err-body-clause-refused : goal.returns-in_err-body-clause-refused
returns-in_err-body-clause-refused c =
    failed_on _ _ _ c.from_residual-in_err-body.ensures
    (λ count behind. fails (name_reads c.in_ok-bytes.ensures.read) (fails (sign_reads Sym.OpenParenthesis (refl, refl) c.in_ok-inner.ensures.read)
    (fails (c.in_ok-parameters.ensures.read _ _).1 (opening_refused _ _ c.in_err-body.field-0.0 Sym.OpenBrace _ (refl, refl) c.in_err-body.ensures.missed))))

pub returns-in_err-items-clause-refused : goal.returns-in_err-items-clause-refused
returns-in_err-items-clause-refused c =
    passed_on _ _ _ _ c.from_residual-in_err-items.ensures c.in_err-items.ensures.refused
    (λ fault refused count behind. fails (name_reads c.in_ok-bytes.ensures.read) (fails (sign_reads Sym.OpenParenthesis (refl, refl) c.in_ok-inner.ensures.read)
    (fails (c.in_ok-parameters.ensures.read _ _).1
    (fails (opening_reads Sym.OpenBrace _ (refl, refl) c.in_ok-body.ensures.read c.in_ok-body.ensures.shallow) (refused _ _)))))

pub returns-clause-read : goal.returns-clause-read
returns-clause-read c = λ count behind. (
  _,
  over (name_reads c.in_ok-bytes.ensures.read) (over (sign_reads Sym.OpenParenthesis (refl, refl) c.in_ok-inner.ensures.read)
      (over (c.in_ok-parameters.ensures.read _ _).1
      (over (opening_reads Sym.OpenBrace _ (refl, refl) c.in_ok-body.ensures.read c.in_ok-body.ensures.shallow)
      (over (c.in_ok-items.ensures.read _ _).1 (held (places behind) _ _))))),
)
