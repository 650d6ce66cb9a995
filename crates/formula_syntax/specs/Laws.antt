-- Laws of texts and their faults.
use Rattle.derivation.specs.TextLaws.{HaveOneTree, HaveNoFault, HaveOneFault}
pub use Rattle.derivation.specs.TextLaws.{IsMemory, IsSameFault}
use Rattle.formula_syntax.specs.Words.{word}
use Rattle.formula_syntax.specs.Texts.{formulas}

-- a text is what at most one tree spells
abbrev pub TreesAreUnique : Type 0
TreesAreUnique = HaveOneTree word formulas

-- a text that is a formula has no fault
abbrev pub FormulasHaveNoFault : Type 0
FormulasHaveNoFault = HaveNoFault word formulas

-- a text has at most one first fault
abbrev pub FirstFaultsAgree : Type 0
FirstFaultsAgree = HaveOneFault word formulas
