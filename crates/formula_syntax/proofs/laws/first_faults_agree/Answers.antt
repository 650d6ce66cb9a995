use Rattle.derivation.proofs.Texts.{one_fault}
use Rattle.formula_syntax.specs.Words.{word}
use Rattle.formula_syntax.specs.Texts.{formulas}
use Rattle.formula_syntax.proofs.laws.first_faults_agree.Goals as goal

pub returns : goal.returns
returns c = one_fault word formulas
