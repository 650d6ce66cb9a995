-- Laws of texts and their faults.
use Rattle.std.specs.Prelude.{Bool}
use Rattle.derivation.specs.Word.{word}
use Rattle.derivation.specs.TextLaws.{HaveOneTree, HaveNoFault, HaveOneFault}
pub use Rattle.derivation.specs.TextLaws.{IsMemory, IsSameFault}
use Rattle.source_syntax.specs.Texts.{programs}

-- a text is what at most one tree spells
abbrev pub TreesAreUnique : Type 0
TreesAreUnique = (functions : Bool) → HaveOneTree word (programs functions)

-- a text that is a program by its syntax has no fault
abbrev pub ProgramsHaveNoFault : Type 0
ProgramsHaveNoFault = (functions : Bool) → HaveNoFault word (programs functions)

-- a text has at most one first fault
abbrev pub FirstFaultsAgree : Type 0
FirstFaultsAgree = (functions : Bool) → HaveOneFault word (programs functions)
