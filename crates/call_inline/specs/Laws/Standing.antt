-- What is said of a unit while its statements are counted: where calls go, what is known of functions, and what takes the room for labels.
use Rattle.std.specs.Prelude.{◌≡◌, ℕ, ◌+◌, ◌<◌, Bool, false, IsTrue, Option, None, Some, List, [], length, MatchResult, Result, slice_get, slice_index_or, ⊤}
use Rattle.step_meaning.specs.Syntax.{Expression}
use Rattle.step_meaning.specs.Syntax as syntax
use Rattle.call_meaning.specs.declared.statement.Func.{Func}
use Rattle.call_meaning.specs.declared.unit.Unit.{Unit}
use Rattle.call_meaning.specs.Tables.{commands, places_from, table_of}
use Rattle.call_meaning.specs.Units.{Command, Commands, assign, call, skip, return, break, continue, if_else, while_loop, do_while, empty, sequence, Table}
use Rattle.call_inline.specs.declared.layout.Layout.{Layout}
use Rattle.call_inline.specs.Inlined.{callees}
use Rattle.call_inline.specs.Placed.{placed_calls}

-- the routines of a unit
abbrev pub routines : Unit → Table
routines unit = table_of unit.funcs unit.names unit.body

-- each call goes to a function before this number
abbrev mutual
  pub GoesBelow : ℕ → Command → Type 0
  GoesBelow k (assign x e) = ⊤
  GoesBelow k (call target f arguments) = f < k
  GoesBelow k skip = ⊤
  GoesBelow k (return value) = ⊤
  GoesBelow k break = ⊤
  GoesBelow k continue = ⊤
  GoesBelow k (if_else c first second) = AllGoBelow k first × AllGoBelow k second
  GoesBelow k (while_loop c body step) = AllGoBelow k body × AllGoBelow k step
  GoesBelow k (do_while body c) = AllGoBelow k body

  pub AllGoBelow : ℕ → Commands → Type 0
  AllGoBelow k empty = ⊤
  AllGoBelow k (sequence first more) = GoesBelow k first × AllGoBelow k more

-- where the statement for a `return` stands: at this offset, if there is one, and else at its own
abbrev pub back_of : Option ℕ → ℕ → ℕ
back_of (Some at) own = at
back_of None own = own

-- what is known of functions is so: the places of their first variables, and of some that calls of these make nothing
pub record IsLayout (unit : Unit) (layout : Layout) : Type 0 where
  pub bases : (f : ℕ) → f < length unit.funcs → slice_index_or layout.bases.items f 0 ≡ (routines unit f).base
  pub made : (f : ℕ) → f < length unit.funcs → IsTrue (slice_index_or layout.idle.items f false)
      → (target : Option ℕ) (arguments : List Expression) → length arguments ≡ (routines unit f).params
      → callees (routines unit) (length unit.funcs) f target arguments ≡ syntax.empty
  pub placed : (f : ℕ) → f < length unit.funcs → IsTrue (slice_index_or layout.idle.items f false)
      → (at : ℕ) → placed_calls unit.funcs (length unit.funcs) f at ≡ []

-- A function makes nothing where it has neither parameters nor variables declared without initialiser, and each statement is a call of one that makes nothing,
-- which the list tells of the functions before it.
abbrev pub IsIdleCall : List Bool → Command → Type 0
IsIdleCall idle (call target f arguments) = IsTrue (slice_index_or idle f false)
IsIdleCall idle (assign x e) = ⊥
IsIdleCall idle skip = ⊥
IsIdleCall idle (return value) = ⊥
IsIdleCall idle break = ⊥
IsIdleCall idle continue = ⊥
IsIdleCall idle (if_else c first second) = ⊥
IsIdleCall idle (while_loop c body step) = ⊥
IsIdleCall idle (do_while body c) = ⊥

abbrev pub AreIdleCalls : List Bool → Commands → Type 0
AreIdleCalls idle empty = ⊤
AreIdleCalls idle (sequence first more) = IsIdleCall idle first × AreIdleCalls idle more

pub record IsIdle (idle : List Bool) (f : Func) : Type 0 where
  pub none : f.params ≡ 0
  pub unset : places_from 0 f.free ≡ []
  pub calls : AreIdleCalls idle (commands f.body)

-- statements at these offsets take as much of the room, or the first that finds none stands there
abbrev pub Takes : List ℕ → ℕ → Result ℕ ℕ → Type 0
Takes places room result = MatchResult result (λ left. left + length places ≡ room) (λ at. slice_get places room ≡ Some at)
