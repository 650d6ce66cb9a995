-- A whole text is a formula, and nothing behind it.
use Rattle.std.proofs.Common.{refl}
use Rattle.derivation.proofs.Whole.{Whole}
use Rattle.formula_syntax.specs.Pending.{a_formula, nothing, first_read}
use Rattle.formula_syntax.specs.Texts.{formulas}
use Rattle.formula_syntax.proofs.Completions.{lawful}

pub a_text : Whole lawful formulas (first_read (a_formula 0) (λ f. nothing)) nothing tt (λ f. (f, tt)) (λ trees. trees.0)
a_text = record { empty = λ f. refl; spells = λ f. refl; told = λ g. refl }
