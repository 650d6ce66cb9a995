-- What is said while bodies are put in the places of their calls. Who reads the contract of `inline` needs none of this.
use Rattle.std.specs.Prelude.{◌≡◌, ℕ, ◌+◌, ◌<◌, ◌≤◌, Option, None, Some, List, [], ◌∷◌, ◌++◌, length, ⊤}
use Rattle.step_meaning.specs.declared.statement.Block.{Block}
use Rattle.step_meaning.specs.declared.statement.Stmt.{Stmt}
use Rattle.step_meaning.specs.Naming.{NamesBelow}
use Rattle.step_meaning.specs.Offsets.{offsets, all_offsets}
use Rattle.step_meaning.specs.Syntax.{Expression, Statements, statements, list_of, parts}
use Rattle.call_meaning.specs.declared.unit.Unit.{Unit}
use Rattle.call_meaning.specs.Reads.{TargetIsIn}
use Rattle.call_meaning.specs.Units.{Command, Commands, assign, call, skip, return, break, continue, if_else, while_loop, do_while, empty, sequence, Table}
use Rattle.call_inline.specs.declared.writer.Ending as code
use Rattle.call_inline.specs.declared.writer.Ending.TheVariants.{Ends, Gives, Drops}
use Rattle.call_inline.specs.declared.writer.Spot.{Spot}
use Rattle.call_inline.specs.Inlined.{Ending, ends, gives, drops}
use Rattle.call_inline.specs.Laws.Standing.{routines}

-- ── What can be put in place ──

abbrev pub AllBelow : ℕ → List Expression → Type 0
AllBelow vars [] = ⊤
AllBelow vars (e ∷ more) = NamesBelow vars e × AllBelow vars more

abbrev pub ValueBelow : ℕ → Option Expression → Type 0
ValueBelow vars (Some e) = NamesBelow vars e
ValueBelow vars None = ⊤

-- A statement of the routine of this number, and a list of them: variables are its own, and calls go below it, with an argument for each parameter.
abbrev mutual
  pub CanStand : Table → ℕ → Command → Type 0
  CanStand table k (assign x e) = (x < (table k).vars) × NamesBelow (table k).vars e
  CanStand table k (call target f arguments) =
      (f < k) × TargetIsIn (table k).vars target × AllBelow (table k).vars arguments × (length arguments ≡ (table f).params)
  CanStand table k skip = ⊤
  CanStand table k (return value) = ValueBelow (table k).vars value
  CanStand table k break = ⊤
  CanStand table k continue = ⊤
  CanStand table k (if_else c first second) = NamesBelow (table k).vars c × AllCanStand table k first × AllCanStand table k second
  CanStand table k (while_loop c body step) = NamesBelow (table k).vars c × AllCanStand table k body × AllCanStand table k step
  CanStand table k (do_while body c) = AllCanStand table k body × NamesBelow (table k).vars c

  pub AllCanStand : Table → ℕ → Commands → Type 0
  AllCanStand table k empty = ⊤
  AllCanStand table k (sequence first more) = CanStand table k first × AllCanStand table k more

-- ── Where it is put ──

abbrev pub ending_of : code.Ending → Ending
ending_of Ends = ends
ending_of (Gives x at) = gives x
ending_of (Drops at) = drops

-- where the statement for a `return` of this offset stands
abbrev pub returns_at : code.Ending → ℕ → ℕ
returns_at Ends own = own
returns_at (Gives x at) own = at
returns_at (Drops at) own = at

-- the spot is that of a routine of the unit, whose variables have places below 16
pub record IsSpot (unit : Unit) (spot : Spot) : Type 0 where
  pub known : spot.function ≤ length unit.funcs
  pub base : spot.base ≡ (routines unit spot.function).base
  pub room : spot.base + (routines unit spot.function).vars ≤ 15

-- ── What is written ──

-- these statements, which stand at these offsets, are added to the list
pub record AreAdded (made : Statements) (places : List ℕ) (before after : List Stmt) : Type 0 where
  pub meaning : parts after ≡ parts before ++ list_of made
  pub offsets : all_offsets after ≡ all_offsets before ++ places

-- the block is these statements, at these offsets
pub record IsBlock (made : Statements) (places : List ℕ) (block : Block) : Type 0 where
  pub meaning : statements block ≡ made
  pub offsets : offsets block ≡ places
