use Rattle.std.proofs.Common.{refl}
use Rattle.derivation.specs.declared.symbol.Symbol.TheVariants as Sym
use Rattle.source_syntax.specs.declared.opening.PreludeOpening.TheVariants as PreludeOpening
use Rattle.source_syntax.proofs.Steps.{over, fails, goes, handed_on, sign_reads, sign_refused, signs_read, signs_refused}
use Rattle.source_syntax.proofs.Programs.{extern_signs, extern_quiet, beginnings}
use Rattle.source_syntax.proofs.program.extern_call.Goals as goal

pub returns-in_err-inner-clause-refused : goal.returns-in_err-inner-clause-refused
returns-in_err-inner-clause-refused c =
    handed_on _ _ _ c.from_residual.ensures
    (λ count behind. fails (goes (beginnings _ behind) count _ PreludeOpening.Extern c.requires.opens) (signs_refused _ extern_signs extern_quiet c.in_err-inner.ensures.missed))

pub returns-in_err-written-clause-refused : goal.returns-in_err-written-clause-refused
returns-in_err-written-clause-refused c =
    handed_on _ _ _ c.from_residual-in_err-written.ensures
    (λ count behind. fails (goes (beginnings _ behind) count _ PreludeOpening.Extern c.requires.opens) (fails (signs_read extern_signs extern_quiet c.in_ok-inner.ensures.read) (c.in_err-written.ensures.refused _ _)))

pub returns-in_err-next-clause-refused : goal.returns-in_err-next-clause-refused
returns-in_err-next-clause-refused c =
    handed_on _ _ _ c.from_residual-in_err-next.ensures
    (λ count behind. fails (goes (beginnings _ behind) count _ PreludeOpening.Extern c.requires.opens) (fails (signs_read extern_signs extern_quiet c.in_ok-inner.ensures.read) (fails (c.in_ok-written.ensures.read _ _).1 (sign_refused _ _ c.in_err-next.field-0.0 Sym.Semicolon (refl, refl) c.in_err-next.ensures.missed))))

pub returns-clause-read : goal.returns-clause-read
returns-clause-read c = λ count behind.
    (_, over (goes (beginnings _ behind) count _ PreludeOpening.Extern c.requires.opens) (over (signs_read extern_signs extern_quiet c.in_ok-inner.ensures.read) (over (c.in_ok-written.ensures.read _ _).1 (sign_reads Sym.Semicolon (refl, refl) c.in_ok-next.ensures.read))))
