-- Which program a text is: its functions and `main`, with the bodies of the functions in the places of their calls.
use Rattle.std.specs.Prelude.{◌≡◌, ℕ, ◌≤◌, List, length, Option, None, Some}
use Rattle.step_meaning.specs.Syntax.{Statements}
use Rattle.call_meaning.specs.declared.unit.Unit.{Unit}
use Rattle.call_meaning.specs.Tables.{table_of, whole_names}
use Rattle.call_inline.specs.declared.fault.InlineFault.{InlineFault}
use Rattle.call_inline.specs.declared.fault.InlineFault.TheVariants.{Nesting, Labels, Memory}
use Rattle.call_inline.specs.Inlined.{inlined_body}
use Rattle.call_inline.specs.Placed.{placed_unit}
use Rattle.line_text.specs.Names.{AreNames}
use Rattle.source_parse.specs.declared.fault.ParseFault.{ParseFault}
use Rattle.source_parse.specs.Derives.{IsUnitText}
use Rattle.source_parse.specs.Faults.{IsMemory, IsUnitFaultOf}

-- the text is the program of functions that becomes the one of these names and this body
pub record IsProgramText (text : List ℕ) (names : List (List ℕ)) (body : Statements) : Type 0 where
  pub unit : Unit
  pub derived : IsUnitText text unit
  pub names_are : names ≡ whole_names unit.func_names unit.funcs unit.names
  pub means : body ≡ inlined_body (table_of unit.funcs unit.names unit.body) (length unit.funcs)

-- the text is a program whose `main` has variables of these names
pub record HasOwnNames (text : List ℕ) (own : List (List ℕ)) : Type 0 where
  pub unit : Unit
  pub derived : IsUnitText text unit
  pub names_are : own ≡ unit.names

-- What follows has no part in the headline.

-- the text is a program, and these are the offsets of the statements that it becomes, in the order of their labels
pub record HasOffsets (text offsets : List ℕ) : Type 0 where
  pub unit : Unit
  pub derived : IsUnitText text unit
  pub stand : offsets ≡ placed_unit unit.funcs unit.body

-- the text is no program
abbrev pub DerivesNone : List ℕ → Type 0
DerivesNone text = (names : List (List ℕ)) (body : Statements) → ¬ IsProgramText text names body

-- the number and the offset of a fault of what the bodies of functions become in the places of their calls
abbrev pub inline_numbered : InlineFault → Option (ℕ × ℕ)
inline_numbered (Nesting at count) = Some (10, at)
inline_numbered (Labels at count) = Some (12, at)
inline_numbered (Memory error) = None

-- ── Laws of texts ──

-- a text is at most one program, and one of its `main`
abbrev pub TextsAreUnique : Type 0
TextsAreUnique =
    (text : List ℕ) (names others : List (List ℕ)) (body other : Statements) → IsProgramText text names body → IsProgramText text others other
    → (names ≡ others) × (body ≡ other)

abbrev pub OwnNamesAreUnique : Type 0
OwnNamesAreUnique = (text : List ℕ) (own other : List (List ℕ)) → HasOwnNames text own → HasOwnNames text other → own ≡ other

-- a text that is a program has no fault
abbrev pub ProgramsHaveNoFault : Type 0
ProgramsHaveNoFault =
    (text : List ℕ) (names : List (List ℕ)) (body : Statements) (fault : ParseFault) → IsProgramText text names body → IsUnitFaultOf text fault
    → IsMemory fault

-- its names are names of variables, and no two of them are equal; and so are those of `main`, which are some of them
abbrev pub ProgramsAreNamed : Type 0
ProgramsAreNamed = (text : List ℕ) (names : List (List ℕ)) (body : Statements) → IsProgramText text names body → AreNames names

abbrev pub OwnNamesAreNames : Type 0
OwnNamesAreNames = (text : List ℕ) (own : List (List ℕ)) → HasOwnNames text own → AreNames own

abbrev pub OwnNamesAreFewer : Type 0
OwnNamesAreFewer =
    (text : List ℕ) (names own : List (List ℕ)) (body : Statements) → IsProgramText text names body → HasOwnNames text own → length own ≤ length names
