-- Which texts are programs by their syntax, and the first fault of those that aren't.
use Rattle.std.specs.Prelude.{ℕ, Bool, List, []}
use Rattle.concrete_syntax.specs.Trees.{Program}
use Rattle.derivation.specs.declared.rule.Rule.{Rule}
use Rattle.derivation.specs.declared.fault.SyntaxFault.{SyntaxFault}
use Rattle.derivation.specs.Word.{word}
use Rattle.derivation.specs.Texts.{IsTextOf, HasFaultOf, MayRefuse}
pub use Rattle.derivation.specs.Texts.{offset_in}
use Rattle.source_syntax.specs.Language.{Phrase}
use Rattle.source_syntax.specs.Spelling.{program_pieces}

-- programs, with what they spell where functions are allowed beside `main`, or aren't
abbrev pub programs : Bool → Phrase
programs functions = record { Tree = Program; pieces = λ tree. program_pieces functions tree [] }

-- the text is what this tree spells
abbrev pub IsTreeText : Bool → List ℕ → Program → Type 0
IsTreeText functions = IsTextOf word (programs functions)

-- What follows has no part in the headline.

-- the text has tokens, and its first fault breaks this rule at this offset
abbrev pub HasFault : Bool → List ℕ → Rule → ℕ → Type 0
HasFault functions = HasFaultOf word (programs functions)

-- what may be answered in place of Ok: the first fault of the text, or that memory ran out
abbrev pub IsFaultOf : Bool → List ℕ → SyntaxFault → Type 0
IsFaultOf functions = MayRefuse word (programs functions)
