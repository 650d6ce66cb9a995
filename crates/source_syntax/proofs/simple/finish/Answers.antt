use Rattle.std.proofs.Common.{refl, arith}
use Rattle.derivation.specs.declared.symbol.Symbol.TheVariants as Sym
use Rattle.source_syntax.proofs.Steps.{over, fails, not_next, taken, left_out, failed_on, passed_on, sign_reads, sign_refused}
use Rattle.source_syntax.proofs.Statements.{finishes}
use Rattle.source_syntax.proofs.simple.finish.Goals as goal

pub returns-in-Some-clause-read : goal.returns-in-Some-clause-read
returns-in-Some-clause-read c = λ count behind. (_, taken (finishes _ behind) c.in-Some.ensures.read (omega arith, tt))

pub returns-in_err-last-clause-refused : goal.returns-in_err-last-clause-refused
returns-in_err-last-clause-refused c =
    passed_on _ _ _ _ c.from_residual.ensures c.in_err-last.ensures.refused
    (λ fault refused count behind. fails (left_out (finishes _ behind) (not_next _ _ c.in_default.ensures.read)) (refused _ _))

pub returns-in_err-next-clause-refused : goal.returns-in_err-next-clause-refused
returns-in_err-next-clause-refused c =
    failed_on _ _ _ c.from_residual-in_err-next.ensures
    (λ count behind. fails (left_out (finishes _ behind) (not_next _ _ c.in_default.ensures.read)) (fails (c.in_ok-last.ensures.read _ _).1 (sign_refused _ _ c.in_err-next.field-0.0 Sym.CloseParenthesis (refl, refl) c.in_err-next.ensures.missed)))

pub returns-clause-read : goal.returns-clause-read
returns-clause-read c = λ count behind.
    (_, over (left_out (finishes _ behind) (not_next _ _ c.in_default.ensures.read)) (over (c.in_ok-last.ensures.read _ _).1 (sign_reads Sym.CloseParenthesis (refl, refl) c.in_ok-next.ensures.read)))
