use Rattle.formula_syntax.specs.declared.opening.Opening.TheVariants as Opening
use Rattle.formula_syntax.proofs.Steps.{over, fails, goes, passed_on}
use Rattle.formula_syntax.proofs.Parts.{parts}
use Rattle.formula_syntax.proofs.part.compared.Goals as goal

pub returns-in_err-left-clause-refused : goal.returns-in_err-left-clause-refused
returns-in_err-left-clause-refused c =
    passed_on _ _ _ _ c.from_residual.ensures c.in_err-left.ensures.refused
    (λ fault refused behind. fails (goes (parts _ behind) _ _ Opening.Sum c.requires.opens) (refused _))

pub returns-in_err-comparison-clause-refused : goal.returns-in_err-comparison-clause-refused
returns-in_err-comparison-clause-refused c =
    passed_on _ _ _ _ c.from_residual-in_err-comparison.ensures c.in_err-comparison.ensures.refused
    (λ fault refused behind. fails (goes (parts _ behind) _ _ Opening.Sum c.requires.opens) (fails (c.in_ok-left.ensures.read _) (refused _)))

pub returns-clause-read : goal.returns-clause-read
returns-clause-read c = λ behind. over (goes (parts _ behind) _ _ Opening.Sum c.requires.opens)
    (over (c.in_ok-left.ensures.read _) (c.in_ok-comparison.ensures.read _))
