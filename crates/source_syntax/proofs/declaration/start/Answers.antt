use Rattle.std.proofs.Common.{◌∙◌, sym, refl}
use Rattle.derivation.specs.declared.symbol.Symbol.TheVariants as Sym
use Rattle.source_syntax.specs.declared.opening.StartOpening.TheVariants as StartOpening
use Rattle.source_syntax.proofs.Steps.{over, fails, goes, failed_on, passed_on, leading_reads, leading_refused}
use Rattle.source_syntax.proofs.Statements.{starts}
use Rattle.source_syntax.proofs.declaration.start.Goals as goal

pub returns-in_ok-next-in-Nothing-clause-read : goal.returns-in_ok-next-in-Nothing-clause-read
returns-in_ok-next-in-Nothing-clause-read c = λ count behind.
    over (goes (starts _ _ behind) count _ StartOpening.Nothing (sym c.in-Nothing.is ∙ c.opening_of_start.ensures)) (leading_reads Sym.Semicolon (refl, refl) c.in_ok-next-in-Nothing.ensures.read)

pub returns-in_err-declared-in-Declaration-clause-refused : goal.returns-in_err-declared-in-Declaration-clause-refused
returns-in_err-declared-in-Declaration-clause-refused c =
    passed_on _ _ _ _ c.from_residual-in_err-declared-in-Declaration.ensures c.in_err-declared-in-Declaration.ensures.refused
    (λ fault refused count behind. fails (goes (starts _ _ behind) count _ StartOpening.Declaration (sym c.in-Declaration.is ∙ c.opening_of_start.ensures)) (refused count behind))

pub returns-in_ok-declared-in-Declaration-clause-read : goal.returns-in_ok-declared-in-Declaration-clause-read
returns-in_ok-declared-in-Declaration-clause-read c = λ count behind.
    over (goes (starts _ _ behind) count _ StartOpening.Declaration (sym c.in-Declaration.is ∙ c.opening_of_start.ensures)) (c.in_ok-declared-in-Declaration.ensures.read count behind)

pub returns-in_err-first-in-Simple-clause-refused : goal.returns-in_err-first-in-Simple-clause-refused
returns-in_err-first-in-Simple-clause-refused c =
    passed_on _ _ _ _ c.from_residual-in_err-first-in-Simple.ensures c.in_err-first-in-Simple.ensures.refused
    (λ fault refused count behind. fails (goes (starts _ _ behind) count _ StartOpening.Simple (sym c.in-Simple.is ∙ c.opening_of_start.ensures)) (refused count _))

pub returns-in_err-next-in-Simple-clause-refused : goal.returns-in_err-next-in-Simple-clause-refused
returns-in_err-next-in-Simple-clause-refused c =
    failed_on _ _ _ c.from_residual-in_err-next-in-Simple.ensures
    (λ count behind. fails (goes (starts _ _ behind) count _ StartOpening.Simple (sym c.in-Simple.is ∙ c.opening_of_start.ensures)) (fails (c.in_ok-first-in-Simple.ensures.read count _).1
    (leading_refused _ _ c.in_err-next-in-Simple.field-0.0 Sym.Semicolon (refl, refl) c.in_err-next-in-Simple.ensures.missed)))

pub returns-in_ok-next-in-Simple-clause-read : goal.returns-in_ok-next-in-Simple-clause-read
returns-in_ok-next-in-Simple-clause-read c = λ count behind.
    over (goes (starts _ _ behind) count _ StartOpening.Simple (sym c.in-Simple.is ∙ c.opening_of_start.ensures)) (over (c.in_ok-first-in-Simple.ensures.read count _).1
    (leading_reads Sym.Semicolon (refl, refl) c.in_ok-next-in-Simple.ensures.read))
