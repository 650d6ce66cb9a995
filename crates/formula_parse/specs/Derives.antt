-- Which formula a text is, over the names of a program's variables.
use Rattle.std.specs.Prelude.{◌≡◌, ℕ, ◌≤◌, List, None, length}
use Rattle.ctl_formula.specs.Formulas.{Ctl}
use Rattle.ctl_formula.specs.Mirror.{ctl}
use Rattle.ctl_formula.specs.declared.formula.Formula.{Formula}
use Rattle.formula_syntax.specs.Trees.{Formula as Tree}
use Rattle.formula_syntax.specs.Texts.{IsFormulaText}
use Rattle.formula_parse.specs.Meanings.{formula_meaning}
use Rattle.formula_parse.specs.Faults.{unknown_in, AllFit}

-- the tree has no unknown name, its atoms are affine and their numbers fit, and it means the formula
pub record StandsFor (names : List (List ℕ)) (tree : Tree) (f : Ctl) : Type 0 where
  pub known : unknown_in names tree ≡ None
  pub fit : AllFit names tree
  pub means : f ≡ formula_meaning names tree

-- the text is the formula: it has at most 4,096 bytes, its tokens are what some concrete tree spells, within the limits, and that tree
-- stands for it
pub record IsFormulaOf (text : List ℕ) (names : List (List ℕ)) (f : Ctl) : Type 0 where
  pub short : length text ≤ 4096
  pub tree : Tree
  pub spelled : IsFormulaText text tree
  pub stands : StandsFor names tree f

-- What follows has no part in the headline.

abbrev pub DerivesFormula : List ℕ → List (List ℕ) → Formula → Type 0
DerivesFormula text names formula = IsFormulaOf text names (ctl formula)
