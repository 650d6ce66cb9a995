use Rattle.std.proofs.Common.{refl}
use Rattle.derivation.specs.declared.symbol.Symbol.TheVariants as Sym
use Rattle.source_syntax.proofs.Steps.{over, fails, failed_on, passed_on, sign_reads, sign_at_reads, sign_refused, sign_at_refused}
use Rattle.source_syntax.proofs.statement.end_of_do.Goals as goal

pub returns-in_err-open-clause-refused : goal.returns-in_err-open-clause-refused
returns-in_err-open-clause-refused c =
    failed_on _ _ _ c.from_residual.ensures
    (λ count behind. sign_at_refused _ _ c.in_err-open.field-0.0 Sym.While (refl, refl) c.in_err-open.ensures.missed)

pub returns-in_err-tested-clause-refused : goal.returns-in_err-tested-clause-refused
returns-in_err-tested-clause-refused c =
    passed_on _ _ _ _ c.from_residual-in_err-tested.ensures c.in_err-tested.ensures.refused
    (λ fault refused count behind. fails (sign_at_reads Sym.While (refl, refl) c.in_ok-open.ensures.read) (refused _ _))

pub returns-in_err-next-clause-refused : goal.returns-in_err-next-clause-refused
returns-in_err-next-clause-refused c =
    failed_on _ _ _ c.from_residual-in_err-next.ensures
    (λ count behind. fails (sign_at_reads Sym.While (refl, refl) c.in_ok-open.ensures.read) (fails (c.in_ok-tested.ensures.read _ _).1 (sign_refused _ _ c.in_err-next.field-0.0 Sym.Semicolon (refl, refl) c.in_err-next.ensures.missed)))

pub returns-clause-read : goal.returns-clause-read
returns-clause-read c = λ count behind.
    (_, over (sign_at_reads Sym.While (refl, refl) c.in_ok-open.ensures.read) (over (c.in_ok-tested.ensures.read _ _).1 (sign_reads Sym.Semicolon (refl, refl) c.in_ok-next.ensures.read)))
