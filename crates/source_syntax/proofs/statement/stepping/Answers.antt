use Rattle.std.proofs.Common.{refl}
use Rattle.derivation.specs.declared.symbol.Symbol.TheVariants as Sym
use Rattle.source_syntax.specs.declared.opening.StatementOpening.TheVariants as StatementOpening
use Rattle.source_syntax.proofs.Steps.{over, fails, goes, failed_on, passed_on, sign_reads, sign_refused}
use Rattle.source_syntax.proofs.Statements.{statements}
use Rattle.source_syntax.proofs.statement.stepping.Goals as goal

pub returns-in_err-inner-clause-refused : goal.returns-in_err-inner-clause-refused
returns-in_err-inner-clause-refused c =
    passed_on _ _ _ _ c.from_residual.ensures c.in_err-inner.ensures.refused
    (λ fault refused count behind. fails (goes (statements _ _ behind) count _ StatementOpening.Steps c.requires.opens) (refused _ _))

pub returns-in_err-next-clause-refused : goal.returns-in_err-next-clause-refused
returns-in_err-next-clause-refused c =
    failed_on _ _ _ c.from_residual-in_err-next.ensures
    (λ count behind. fails (goes (statements _ _ behind) count _ StatementOpening.Steps c.requires.opens) (fails (c.in_ok-inner.ensures.read _ _).1 (sign_refused _ _ c.in_err-next.field-0.0 Sym.Semicolon (refl, refl) c.in_err-next.ensures.missed)))

pub returns-clause-read : goal.returns-clause-read
returns-clause-read c = λ count behind.
    (_, over (goes (statements _ _ behind) count _ StatementOpening.Steps c.requires.opens) (over (c.in_ok-inner.ensures.read _ _).1 (sign_reads Sym.Semicolon (refl, refl) c.in_ok-next.ensures.read)))
