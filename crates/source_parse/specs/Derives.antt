-- Which program a text is, and which program of functions.
use Rattle.std.specs.Prelude.{◌≡◌, ℕ, true, false, List}
use Rattle.step_meaning.specs.Syntax.{Statements, statements}
use Rattle.step_meaning.specs.declared.program.Program.{Program}
use Rattle.source_lex.specs.declared.token.Token.{Token}
use Rattle.source_lex.specs.Tokens.{TokensOf}
use Rattle.concrete_syntax.specs.Trees.{Program as Tree}
use Rattle.call_meaning.specs.declared.unit.Unit.{Unit}
use Rattle.source_syntax.specs.Texts.{IsTreeText as IsSyntaxOf}
use Rattle.elaboration.specs.Elaborates.{StandsFor, StandsForUnit, program_offsets}

-- the text is the program of functions: its tokens are what some concrete tree spells, within the limits, and that tree has no fault of names, sorts, jumps, divisors,
-- returns and calls and stands for it
pub record IsUnitText (text : List ℕ) (unit : Unit) : Type 0 where
  pub tree : Tree
  pub spelled : IsSyntaxOf true text tree
  pub tokens : List Token
  pub lexed : TokensOf text tokens
  pub stands : StandsForUnit tokens tree unit.func_names unit.funcs unit.names unit.body

-- What follows has no part in the headline.

-- the text is the program of these names and this body: the same of a tree without functions and calls
pub record IsProgramText (text : List ℕ) (names : List (List ℕ)) (body : Statements) : Type 0 where
  pub tree : Tree
  pub spelled : IsSyntaxOf false text tree
  pub stands : StandsFor tree names body

-- the text is this program
abbrev pub Derives : List ℕ → Program → Type 0
Derives text program = IsProgramText text program.names (statements program.body)

-- the text is a program, and these are the offsets at which its statements stand, in the order of the tree (`Offsets` of `step_meaning`)
pub record HasOffsets (text offsets : List ℕ) : Type 0 where
  pub tree : Tree
  pub spelled : IsSyntaxOf false text tree
  pub tokens : List Token
  pub lexed : TokensOf text tokens
  pub stand : offsets ≡ program_offsets tokens tree

-- the text is no program
abbrev pub DerivesNone : List ℕ → Type 0
DerivesNone text = (names : List (List ℕ)) (body : Statements) → ¬ IsProgramText text names body
