use Rattle.source_syntax.specs.declared.opening.PreludeOpening.TheVariants as PreludeOpening
use Rattle.source_syntax.proofs.Steps.{over, fails, goes, handed_on, signs_read, signs_refused}
use Rattle.source_syntax.proofs.Programs.{typedef_signs, typedef_quiet, beginnings}
use Rattle.source_syntax.proofs.program.typedef_bool.Goals as goal

pub returns-in_err-next-clause-refused : goal.returns-in_err-next-clause-refused
returns-in_err-next-clause-refused c =
    handed_on _ _ _ c.from_residual.ensures
    (λ count behind. fails (goes (beginnings _ behind) count _ PreludeOpening.Typedef c.requires.opens) (signs_refused _ typedef_signs typedef_quiet c.in_err-next.ensures.missed))

pub returns-clause-read : goal.returns-clause-read
returns-clause-read c = λ count behind.
    (_, over (goes (beginnings _ behind) count _ PreludeOpening.Typedef c.requires.opens) (signs_read typedef_signs typedef_quiet c.in_ok-next.ensures.read))
