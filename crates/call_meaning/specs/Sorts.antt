-- Each expression of a unit has the sort of its place, over so many variables, and `main` returns no value.
use Rattle.std.specs.Prelude.{ℕ, ◌<◌, Option, None, Some, List, [], ◌∷◌, ⊤}
use Rattle.step_meaning.specs.Syntax.{Expression}
use Rattle.step_meaning.specs.Valid.{IsNumber, IsTest}
use Rattle.call_meaning.specs.Units.{Command, Commands, assign, call, skip, return, break, continue, if_else, while_loop, do_while, empty, sequence}

abbrev pub AllNumbers : ℕ → List Expression → Type 0
AllNumbers vars [] = ⊤
AllNumbers vars (a ∷ more) = IsNumber vars a × AllNumbers vars more

abbrev pub ValueIsNumber : ℕ → Option Expression → Type 0
ValueIsNumber vars None = ⊤
ValueIsNumber vars (Some e) = IsNumber vars e

abbrev mutual
  pub IsSorted : ℕ → Command → Type 0
  IsSorted vars (assign x e) = (x < vars) × IsNumber vars e
  IsSorted vars (call target f arguments) = AllNumbers vars arguments
  IsSorted vars skip = ⊤
  IsSorted vars (return value) = ValueIsNumber vars value
  IsSorted vars break = ⊤
  IsSorted vars continue = ⊤
  IsSorted vars (if_else c first second) = IsTest vars c × AreSorted vars first × AreSorted vars second
  IsSorted vars (while_loop c body step) = IsTest vars c × AreSorted vars body × AreSorted vars step
  IsSorted vars (do_while body c) = AreSorted vars body × IsTest vars c

  pub AreSorted : ℕ → Commands → Type 0
  AreSorted vars empty = ⊤
  AreSorted vars (sequence first more) = IsSorted vars first × AreSorted vars more

-- no `return` has a value
abbrev pub IsNoValue : Option Expression → Type 0
IsNoValue (Some e) = ⊥
IsNoValue None = ⊤

abbrev mutual
  pub HasNoValue : Command → Type 0
  HasNoValue (return value) = IsNoValue value
  HasNoValue (assign x e) = ⊤
  HasNoValue (call target f arguments) = ⊤
  HasNoValue skip = ⊤
  HasNoValue break = ⊤
  HasNoValue continue = ⊤
  HasNoValue (if_else c first second) = HaveNoValue first × HaveNoValue second
  HasNoValue (while_loop c body step) = HaveNoValue body × HaveNoValue step
  HasNoValue (do_while body c) = HaveNoValue body

  pub HaveNoValue : Commands → Type 0
  HaveNoValue empty = ⊤
  HaveNoValue (sequence first more) = HasNoValue first × HaveNoValue more
