-- Which texts are formulas by their syntax, and the first fault of those that aren't.
use Rattle.std.specs.Prelude.{ℕ, List, []}
use Rattle.derivation.specs.declared.rule.Rule.{Rule}
use Rattle.derivation.specs.declared.fault.SyntaxFault.{SyntaxFault}
use Rattle.derivation.specs.Texts.{IsTextOf, HasFaultOf, MayRefuse}
pub use Rattle.derivation.specs.Texts.{offset_in}
use Rattle.formula_syntax.specs.Words.{word}
use Rattle.formula_syntax.specs.Language.{Phrase}
use Rattle.formula_syntax.specs.Trees.{Formula}
use Rattle.formula_syntax.specs.Spelling.{formula_pieces}

-- formulas, with what they spell
abbrev pub formulas : Phrase
formulas = record { Tree = Formula; pieces = λ tree. formula_pieces 0 tree [] }

-- the text is what this tree spells
abbrev pub IsFormulaText : List ℕ → Formula → Type 0
IsFormulaText = IsTextOf word formulas

-- What follows has no part in the headline.

-- the text has tokens, and its first fault breaks this rule at this offset
abbrev pub HasFault : List ℕ → Rule → ℕ → Type 0
HasFault = HasFaultOf word formulas

-- what may be answered in place of Ok: the first fault of the text, or that memory ran out
abbrev pub IsFaultOf : List ℕ → SyntaxFault → Type 0
IsFaultOf = MayRefuse word formulas
