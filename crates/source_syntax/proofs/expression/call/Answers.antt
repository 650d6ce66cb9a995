use Rattle.std.proofs.Common.{refl}
use Rattle.derivation.specs.declared.symbol.Symbol.TheVariants as Sym
use Rattle.source_syntax.proofs.Steps.{over, fails, goes, handed_on, sign_reads, opening_reads, sign_refused, opening_refused}
use Rattle.source_syntax.specs.declared.opening.OperandOpening.TheVariants.{Call}
use Rattle.source_syntax.proofs.Expressions.{operands}
use Rattle.source_syntax.proofs.expression.call.Goals as goal

pub returns-in_err-close-clause-refused : goal.returns-in_err-close-clause-refused
returns-in_err-close-clause-refused c =
    handed_on _ _ _ c.from_residual-in_err-close.ensures
    (λ count behind. fails (goes (operands _ behind) count _ Call c.requires.opens)
    (fails (sign_reads Sym.Nondeterministic (refl, refl) c.in_ok-open.ensures.read)
    (opening_refused _ _ c.in_err-close.field-0.0 Sym.OpenParenthesis _ (refl, refl) c.in_err-close.ensures.missed)))

pub returns-in_err-next-clause-refused : goal.returns-in_err-next-clause-refused
returns-in_err-next-clause-refused c =
    handed_on _ _ _ c.from_residual-in_err-next.ensures
    (λ count behind. fails (goes (operands _ behind) count _ Call c.requires.opens)
    (fails (sign_reads Sym.Nondeterministic (refl, refl) c.in_ok-open.ensures.read)
    (fails (opening_reads Sym.OpenParenthesis _ (refl, refl) c.in_ok-close.ensures.read c.in_ok-close.ensures.shallow)
    (sign_refused _ _ c.in_err-next.field-0.0 Sym.CloseParenthesis (refl, refl) c.in_err-next.ensures.missed))))

pub returns-clause-read : goal.returns-clause-read
returns-clause-read c = λ count behind. over (goes (operands _ behind) count _ Call c.requires.opens)
    (over (sign_reads Sym.Nondeterministic (refl, refl) c.in_ok-open.ensures.read)
    (over (opening_reads Sym.OpenParenthesis _ (refl, refl) c.in_ok-close.ensures.read c.in_ok-close.ensures.shallow)
    (sign_reads Sym.CloseParenthesis (refl, refl) c.in_ok-next.ensures.read)))
