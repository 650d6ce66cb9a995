use Rattle.derivation.proofs.Texts.{no_fault}
use Rattle.formula_syntax.specs.Words.{word}
use Rattle.formula_syntax.specs.Texts.{formulas}
use Rattle.formula_syntax.proofs.laws.formulas_have_no_fault.Goals as goal

pub returns : goal.returns
returns c = no_fault word formulas
