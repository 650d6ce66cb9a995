use Rattle.std.proofs.Common.{refl, arith}
use Rattle.derivation.specs.declared.symbol.Symbol.TheVariants as Sym
use Rattle.source_syntax.proofs.Steps.{over, fails, not_next, taken, left_out, handed_on, sign_reads, sign_refused}
use Rattle.source_syntax.proofs.Statements.{voids}
use Rattle.source_syntax.proofs.program.void.Goals as goal

pub returns-in_err-end-clause-refused : goal.returns-in_err-end-clause-refused
returns-in_err-end-clause-refused c =
    handed_on _ _ _ c.from_residual.ensures
    (λ count behind. fails (taken (voids behind) c.in-Some.ensures.read (omega arith, tt)) (sign_refused _ _ c.in_err-end.field-0.0 Sym.CloseParenthesis (refl, refl) c.in_err-end.ensures.missed))

pub returns-in-Some-clause-read : goal.returns-in-Some-clause-read
returns-in-Some-clause-read c = λ count behind.
    (_, over (taken (voids behind) c.in-Some.ensures.read (omega arith, tt)) (sign_reads Sym.CloseParenthesis (refl, refl) c.in_ok-end.ensures.read))

pub returns-in_err-next-clause-refused : goal.returns-in_err-next-clause-refused
returns-in_err-next-clause-refused c =
    handed_on _ _ _ c.from_residual-in_err-next.ensures
    (λ count behind. fails (left_out (voids behind) (not_next _ _ c.in_default.ensures.read)) (sign_refused _ _ c.in_err-next.field-0.0 Sym.CloseParenthesis (refl, refl) c.in_err-next.ensures.missed))

pub returns-clause-read : goal.returns-clause-read
returns-clause-read c = λ count behind.
    (_, over (left_out (voids behind) (not_next _ _ c.in_default.ensures.read)) (sign_reads Sym.CloseParenthesis (refl, refl) c.in_ok-next.ensures.read))
