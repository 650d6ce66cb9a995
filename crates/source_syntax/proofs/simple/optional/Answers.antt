use Rattle.std.proofs.Common.{refl, arith}
use Rattle.derivation.specs.declared.symbol.Symbol.TheVariants as Sym
use Rattle.source_syntax.proofs.Steps.{over, fails, not_next, taken, left_out, failed_on, passed_on, sign_reads, sign_refused}
use Rattle.source_syntax.proofs.Statements.{optionals}
use Rattle.source_syntax.proofs.simple.optional.Goals as goal

pub returns-in-Some-clause-read : goal.returns-in-Some-clause-read
returns-in-Some-clause-read c = λ behind. (_, taken (optionals _ behind) c.in-Some.ensures.read (omega arith, tt))

pub returns-in_err-value-clause-refused : goal.returns-in_err-value-clause-refused
returns-in_err-value-clause-refused c =
    passed_on _ _ _ _ c.from_residual.ensures c.in_err-value.ensures.refused
    (λ fault refused behind. fails (left_out (optionals _ behind) (not_next _ _ c.in_default.ensures.read)) (refused _))

pub returns-in_err-next-clause-refused : goal.returns-in_err-next-clause-refused
returns-in_err-next-clause-refused c =
    failed_on _ _ _ c.from_residual-in_err-next.ensures
    (λ behind. fails (left_out (optionals _ behind) (not_next _ _ c.in_default.ensures.read)) (fails (c.in_ok-value.ensures.read _) (sign_refused _ _ c.in_err-next.field-0.0 Sym.Semicolon (refl, refl) c.in_err-next.ensures.missed)))

pub returns-clause-read : goal.returns-clause-read
returns-clause-read c = λ behind.
    (_, over (left_out (optionals _ behind) (not_next _ _ c.in_default.ensures.read)) (over (c.in_ok-value.ensures.read _) (sign_reads Sym.Semicolon (refl, refl) c.in_ok-next.ensures.read)))
