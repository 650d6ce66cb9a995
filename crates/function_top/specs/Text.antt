-- The text that a call read, and the program that it is.
use Rattle.std.specs.Prelude.{◌≡◌, ℕ, ◌<◌, ◌≤◌, List, [], Option, IfSome, length}
use Rattle.step_meaning.specs.declared.program.Program.{Program}
use Rattle.step_meaning.specs.Offsets.{offsets}
use Rattle.step_meaning.specs.Syntax.{size_of, statements}
use Rattle.control_flow.specs.Faults.{wide_offsets}
use Rattle.function_top.specs.ProgramText.{HasOffsets, HasOwnNames, IsProgramText}

-- These bytes were read as the text: they are those that the source had left, where it told them. Of a source that tells nothing they are
-- some bytes.
abbrev pub IsRead : Option (List ℕ) → List ℕ → Type 0
IsRead left text = IfSome left (λ told. told ≡ text)

-- the text, of at most 65,536 bytes, is the program, whose statements stand at these offsets
pub record IsParsed (text : List ℕ) (program : Program) : Type 0 where
  pub short : length text ≤ 65536
  pub derived : IsProgramText text program.names (statements program.body)
  pub stand : HasOffsets text (offsets program.body)

-- and the program has at most 1,024 labels, and no test of it spreads to more than 64 conjunctions
pub record IsGraphOf (text : List ℕ) (program : Program) : Type 0 where
  pub parsed : IsParsed text program
  pub labels : size_of (statements program.body) < 1024
  pub conjunctions : wide_offsets program.body ≡ []

-- the text is such a program, whose `main` has variables of these names
pub record HasGraph (text : List ℕ) (own : List (List ℕ)) : Type 0 where
  pub program : Program
  pub graph : IsGraphOf text program
  pub own_is : HasOwnNames text own
