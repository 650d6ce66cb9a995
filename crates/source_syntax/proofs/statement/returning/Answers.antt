use Rattle.std.proofs.Common.{refl}
use Rattle.derivation.specs.declared.symbol.Symbol.TheVariants as Sym
use Rattle.source_syntax.specs.declared.opening.StatementOpening.TheVariants as StatementOpening
use Rattle.source_syntax.proofs.Steps.{over, fails, goes, failed_on, passed_on, leading_reads, leading_refused}
use Rattle.source_syntax.proofs.Statements.{statements}
use Rattle.source_syntax.proofs.statement.returning.Goals as goal

pub returns-in_err-behind-clause-refused : goal.returns-in_err-behind-clause-refused
returns-in_err-behind-clause-refused c =
    failed_on _ _ _ c.from_residual.ensures
    (λ count behind. fails (goes (statements _ _ behind) count _ StatementOpening.Return c.requires.opens) (leading_refused _ _ c.in_err-behind.field-0.0 Sym.Return (refl, refl) c.in_err-behind.ensures.missed))

pub returns-in_err-value-clause-refused : goal.returns-in_err-value-clause-refused
returns-in_err-value-clause-refused c =
    passed_on _ _ _ _ c.from_residual-in_err-value.ensures c.in_err-value.ensures.refused
    (λ fault refused count behind. fails (goes (statements _ _ behind) count _ StatementOpening.Return c.requires.opens) (fails (leading_reads Sym.Return (refl, refl) c.in_ok-behind.ensures.read) (refused _)))

pub returns-clause-read : goal.returns-clause-read
returns-clause-read c = λ count behind.
    (_, over (goes (statements _ _ behind) count _ StatementOpening.Return c.requires.opens) (over (leading_reads Sym.Return (refl, refl) c.in_ok-behind.ensures.read) (c.in_ok-value.ensures.read _).1))
