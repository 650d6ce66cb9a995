use Rattle.std.proofs.Common.{refl}
use Rattle.derivation.specs.declared.symbol.Symbol.TheVariants as Sym
use Rattle.source_syntax.proofs.Steps.{over, fails, failed_on, passed_on, sign_reads, sign_refused, name_reads, name_refused}
use Rattle.source_syntax.proofs.program.parameter.Goals as goal

pub returns-in_err-inner-clause-refused : goal.returns-in_err-inner-clause-refused
returns-in_err-inner-clause-refused c =
    failed_on _ _ _ c.from_residual.ensures
    (λ count behind. sign_refused _ _ c.in_err-inner.field-0.0 Sym.Int (refl, refl) c.in_err-inner.ensures.missed)

pub returns-in_err-bytes-clause-refused : goal.returns-in_err-bytes-clause-refused
returns-in_err-bytes-clause-refused c =
    passed_on _ _ _ _ c.from_residual-in_err-bytes.ensures c.in_err-bytes.ensures.missed
    (λ fault missed count behind. fails (sign_reads Sym.Int (refl, refl) c.in_ok-inner.ensures.read) (name_refused _ _ fault missed))

pub returns-clause-read : goal.returns-clause-read
returns-clause-read c = λ count behind. (_, over (sign_reads Sym.Int (refl, refl) c.in_ok-inner.ensures.read) (name_reads c.in_ok-bytes.ensures.read))
