-- What the bodies of functions and of `main` keep to: calls go to functions before their own, of which a value is asked only where it is one that
-- gives a value; each `break` and `continue` stands inside the body of a loop; and a function returns only where nothing of it follows.
use Rattle.std.specs.Prelude.{ℕ, ◌<◌, Bool, true, false, IsTrue, Option, None, Some, ⊤}
use Rattle.step_meaning.specs.Syntax.{Expression}
use Rattle.std.specs.Bool.{IsFalse}
use Rattle.call_meaning.specs.Units.{Command, Commands, assign, call, skip, return, break, continue, if_else, while_loop, do_while, empty, sequence, Table}

-- a value is asked only of a function that gives one
abbrev pub MayAsk : Option ℕ → Bool → Type 0
MayAsk (Some x) valued = IsTrue valued
MayAsk None valued = ⊤

-- a statement, and a list of them, in the function of the number `k`, where `free_to_return` says that a `return` may stand here, and `within` that the
-- body of a loop is around it
abbrev mutual
  pub Stands : Table → ℕ → Bool → Bool → Command → Type 0
  Stands table k free_to_return within (assign x e) = ⊤
  Stands table k free_to_return within (call target f arguments) = (f < k) × MayAsk target (table f).valued
  Stands table k free_to_return within skip = ⊤
  Stands table k free_to_return within (return value) = IsTrue free_to_return
  Stands table k free_to_return within break = IsTrue within
  Stands table k free_to_return within continue = IsTrue within
  Stands table k free_to_return within (if_else c first second) = AllStand table k free_to_return within first × AllStand table k free_to_return within second
  Stands table k free_to_return within (while_loop c body step) = AllStand table k free_to_return true body × AllStand table k free_to_return within step
  Stands table k free_to_return within (do_while body c) = AllStand table k free_to_return true body

  pub AllStand : Table → ℕ → Bool → Bool → Commands → Type 0
  AllStand table k free_to_return within empty = ⊤
  AllStand table k free_to_return within (sequence first more) = Stands table k free_to_return within first × AllStand table k free_to_return within more

-- a `return` at the end of a function that gives a value, or of one that gives none
abbrev pub Gives : Bool → Option Expression → Type 0
Gives valued (Some e) = IsTrue valued
Gives valued None = IsFalse valued

-- A function's body: a function that gives a value ends with its `return`, whichever way its run goes. A `return` is the last statement of the body, or of a
-- part of an `if` that is the last.
abbrev mutual
  pub IsClosing : Table → ℕ → Bool → Command → Type 0
  IsClosing table k valued (return value) = Gives valued value
  IsClosing table k valued (if_else c first second) = Closes table k valued first × Closes table k valued second
  IsClosing table k valued s = Stands table k false false s × IsFalse valued

  pub Closes : Table → ℕ → Bool → Commands → Type 0
  Closes table k valued empty = IsFalse valued
  Closes table k valued (sequence first empty) = IsClosing table k valued first
  Closes table k valued (sequence first (sequence next more)) = Stands table k false false first × Closes table k valued (sequence next more)

-- a table of functions and of `main`, which has this number
pub record AreRoutines (table : Table) (main : ℕ) : Type 0 where
  pub functions : (k : ℕ) → k < main → Closes table k (table k).valued (table k).body
  pub whole : AllStand table main true false (table main).body
