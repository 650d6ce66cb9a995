use Rattle.derivation.proofs.Texts.{one_tree}
use Rattle.formula_syntax.specs.Words.{word}
use Rattle.formula_syntax.specs.Texts.{formulas}
use Rattle.formula_syntax.proofs.OneTree.{one_formula}
use Rattle.formula_syntax.proofs.laws.trees_are_unique.Goals as goal

pub returns : goal.returns
returns c = one_tree word formulas one_formula
