-- Laws of texts and their faults.
use Rattle.std.specs.Prelude.{◌≡◌, ℕ, List, ⊤}
use Rattle.source_lex.specs.declared.token.Token.{Token}
use Rattle.derivation.specs.declared.fault.SyntaxFault.{SyntaxFault}
use Rattle.derivation.specs.declared.fault.SyntaxFault.TheVariants.{Memory}
use Rattle.derivation.specs.Languages.{Language}
use Rattle.derivation.specs.Comes.{Phrase}
use Rattle.derivation.specs.Texts.{IsTextOf, MayRefuse}

-- it says nothing of the text
abbrev pub IsMemory : SyntaxFault → Type 0
IsMemory (Memory error) = ⊤
IsMemory _ = ⊥

-- the same; of want of memory nothing is said
abbrev pub IsSameFault : SyntaxFault → SyntaxFault → Type 0
IsSameFault (Memory error) _ = ⊤
IsSameFault _ (Memory error) = ⊤
IsSameFault fault other = fault ≡ other

module _ {L : Language} (word : List ℕ → Token → L.Word) (A : Phrase L) where
  -- a text is what at most one tree spells
  abbrev pub HaveOneTree : Type 0
  HaveOneTree = (text : List ℕ) (tree other : A.Tree) → IsTextOf word A text tree → IsTextOf word A text other → tree ≡ other

  -- a text with a tree has no fault
  abbrev pub HaveNoFault : Type 0
  HaveNoFault = (text : List ℕ) (tree : A.Tree) (fault : SyntaxFault) → IsTextOf word A text tree → MayRefuse word A text fault → IsMemory fault

  -- a text has at most one first fault
  abbrev pub HaveOneFault : Type 0
  HaveOneFault = (text : List ℕ) (fault other : SyntaxFault) → MayRefuse word A text fault → MayRefuse word A text other → IsSameFault fault other
