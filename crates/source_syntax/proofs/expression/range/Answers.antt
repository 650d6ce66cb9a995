use Rattle.std.proofs.Common.{refl}
use Rattle.derivation.specs.declared.symbol.Symbol.TheVariants as Sym
use Rattle.source_syntax.specs.declared.opening.OperandOpening.TheVariants.{Bracket}
use Rattle.source_syntax.proofs.Steps.{over, fails, goes, handed_on, sign_reads, sign_refused}
use Rattle.source_syntax.proofs.Expressions.{operands}
use Rattle.source_syntax.proofs.expression.range.Goals as goal

pub returns-in_err-low-clause-refused : goal.returns-in_err-low-clause-refused
returns-in_err-low-clause-refused c =
    handed_on _ _ _ c.from_residual-in_err-low.ensures
    (λ count behind. fails (goes (operands _ behind) count _ Bracket c.requires.opens)
    (fails (sign_reads Sym.OpenBracket (refl, refl) c.in_ok-first.ensures.read) (c.in_err-low.ensures.refused count _)))

pub returns-in_err-second-clause-refused : goal.returns-in_err-second-clause-refused
returns-in_err-second-clause-refused c =
    handed_on _ _ _ c.from_residual-in_err-second.ensures
    (λ count behind. fails (goes (operands _ behind) count _ Bracket c.requires.opens)
    (fails (sign_reads Sym.OpenBracket (refl, refl) c.in_ok-first.ensures.read)
    (fails (c.in_ok-low.ensures.read count _)
    (sign_refused _ _ c.in_err-second.field-0.0 Sym.Comma (refl, refl) c.in_err-second.ensures.missed))))

pub returns-in_err-high-clause-refused : goal.returns-in_err-high-clause-refused
returns-in_err-high-clause-refused c =
    handed_on _ _ _ c.from_residual-in_err-high.ensures
    (λ count behind. fails (goes (operands _ behind) count _ Bracket c.requires.opens)
    (fails (sign_reads Sym.OpenBracket (refl, refl) c.in_ok-first.ensures.read)
    (fails (c.in_ok-low.ensures.read count _)
    (fails (sign_reads Sym.Comma (refl, refl) c.in_ok-second.ensures.read) (c.in_err-high.ensures.refused count _)))))

pub returns-in_err-next-clause-refused : goal.returns-in_err-next-clause-refused
returns-in_err-next-clause-refused c =
    handed_on _ _ _ c.from_residual-in_err-next.ensures
    (λ count behind. fails (goes (operands _ behind) count _ Bracket c.requires.opens)
    (fails (sign_reads Sym.OpenBracket (refl, refl) c.in_ok-first.ensures.read)
    (fails (c.in_ok-low.ensures.read count _)
    (fails (sign_reads Sym.Comma (refl, refl) c.in_ok-second.ensures.read)
    (fails (c.in_ok-high.ensures.read count _)
    (sign_refused _ _ c.in_err-next.field-0.0 Sym.CloseBracket (refl, refl) c.in_err-next.ensures.missed))))))

pub returns-clause-read : goal.returns-clause-read
returns-clause-read c = λ count behind. over (goes (operands _ behind) count _ Bracket c.requires.opens)
    (over (sign_reads Sym.OpenBracket (refl, refl) c.in_ok-first.ensures.read)
    (over (c.in_ok-low.ensures.read count _)
    (over (sign_reads Sym.Comma (refl, refl) c.in_ok-second.ensures.read)
    (over (c.in_ok-high.ensures.read count _)
    (sign_reads Sym.CloseBracket (refl, refl) c.in_ok-next.ensures.read)))))
