-- Laws of derivations.
use Rattle.std.specs.Prelude.{◌≡◌, ◌≢◌, Bool, false, ℕ, ◌≤◌, List, length, map, Some, All, AllPairs}
use Rattle.source_lex.specs.Spellings.{SpellsName}
use Rattle.step_meaning.specs.Syntax.{Statements, size_of}
use Rattle.step_meaning.specs.Valid.{IsBody, IsInside}
use Rattle.call_meaning.specs.declared.unit.Unit.{Unit}
use Rattle.call_meaning.specs.Offsets.{offsets, levels}
use Rattle.call_meaning.specs.Tables.{commands}
use Rattle.elaboration.specs.Elaborates.{made_of}
use Rattle.source_parse.specs.declared.fault.ParseFault.{ParseFault}
use Rattle.source_parse.specs.Derives.{IsProgramText, IsUnitText}
use Rattle.source_parse.specs.Faults.{IsFaultIn, IsFaultOf, IsMemory, IsUnitFaultOf, numbered}

-- a text is at most one program
abbrev pub TextsAreUnique : Type 0
TextsAreUnique =
    (text : List ℕ) (names others : List (List ℕ)) (body other : Statements) → IsProgramText text names body → IsProgramText text others other
    → (names ≡ others) × (body ≡ other)

-- a text that is a program has no fault
abbrev pub ProgramsHaveNoFault : Type 0
ProgramsHaveNoFault =
    (text : List ℕ) (names : List (List ℕ)) (body : Statements) (fault : ParseFault) → IsProgramText text names body → IsFaultOf text fault
    → IsMemory fault

-- a text has at most one first fault: one number at one offset
abbrev pub FaultsAgree : Type 0
FaultsAgree =
    (functions : Bool) (text : List ℕ) (fault other : ParseFault) (found there : ℕ × ℕ) → IsFaultIn functions text fault → IsFaultIn functions text other
    → numbered fault ≡ Some found → numbered other ≡ Some there → found ≡ there

-- a program has at most as many statements as its text has bytes
abbrev pub ProgramsAreSmall : Type 0
ProgramsAreSmall =
    (text : List ℕ) (names : List (List ℕ)) (body : Statements) → IsProgramText text names body → size_of body ≤ length text

-- the names of a program are spelled as names: a letter or `_`, and then letters, digits and `_`
abbrev pub NamesAreNames : Type 0
NamesAreNames =
    (text : List ℕ) (names : List (List ℕ)) (body : Statements) → IsProgramText text names body → All SpellsName names

-- a text that is a program is a valid one: it has at most 15 names, and a body over them, each operand of its sort and each `break` and
-- `continue` inside the body of a loop
abbrev pub ProgramsAreValid : Type 0
ProgramsAreValid =
    (text : List ℕ) (names : List (List ℕ)) (body : Statements) → IsProgramText text names body
    → (length names ≤ 15) × IsBody (length names) body × IsInside false body

-- no two names of a program are equal
abbrev pub NamesAreDistinct : Type 0
NamesAreDistinct =
    (text : List ℕ) (names : List (List ℕ)) (body : Statements) → IsProgramText text names body → AllPairs (λ name other. name ≢ other) names

-- ── Programs of functions ──

-- two units are the same in all that is said of them
pub record AreSameUnits (unit other : Unit) : Type 0 where
  pub known : unit.func_names ≡ other.func_names
  pub functions : map made_of unit.funcs ≡ map made_of other.funcs
  pub names : unit.names ≡ other.names
  pub body : commands unit.body ≡ commands other.body
  pub offsets : offsets unit.body ≡ offsets other.body
  pub levels : levels unit.body ≡ levels other.body

-- a text is at most one unit
abbrev pub UnitsAreUnique : Type 0
UnitsAreUnique = (text : List ℕ) (unit other : Unit) → IsUnitText text unit → IsUnitText text other → AreSameUnits unit other

-- a text that is a unit has no fault
abbrev pub UnitsHaveNoFault : Type 0
UnitsHaveNoFault = (text : List ℕ) (unit : Unit) (fault : ParseFault) → IsUnitText text unit → IsUnitFaultOf text fault → IsMemory fault

-- the names of its functions, of their variables and of those of `main` are spelled as names
pub record HasSpelledNames (unit : Unit) : Type 0 where
  pub functions : All SpellsName unit.func_names
  pub variables : All (λ f. All SpellsName f.names) unit.funcs
  pub main : All SpellsName unit.names

abbrev pub NamesOfUnitsAreNames : Type 0
NamesOfUnitsAreNames = (text : List ℕ) (unit : Unit) → IsUnitText text unit → HasSpelledNames unit
