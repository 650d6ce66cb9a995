-- Valid programs: what the type `Program` promises of its names and its body.
use Rattle.std.specs.Prelude.{◌≢◌, pos, Bool, true, false, IsTrue, ℕ, ◌<◌, ◌≤◌, ℤ, ◌≤ℤ◌, List, length, Option, None, Some, AllPairs, [], ◌∷◌, ⊤}
use Rattle.step_meaning.specs.declared.expression.Op2.{Op2}
use Rattle.step_meaning.specs.declared.expression.Op2.TheVariants.{Add, Sub, Mul, Less, LessEqual, Greater, GreaterEqual, Equal, NotEqual, And, Or}
use Rattle.step_meaning.specs.declared.statement.Block.{Block}
use Rattle.step_meaning.specs.Syntax.{Expression, number, variable, free, range, divided, truth, negative, negation, pair, Statement, Statements, assign, skip, return, break, continue, if_else, while_loop, do_while, empty, sequence, statements}
use Rattle.step_meaning.specs.Step.{Todo, one, turn}

-- the lower end of a range isn't above its upper end
abbrev pub IsInOrder : Option ℤ → Option ℤ → Type 0
IsInOrder (Some lo) (Some hi) = lo ≤ℤ hi
IsInOrder (Some lo) None = ⊤
IsInOrder None hi = ⊤

-- an operator makes a number of two operands of which `both` says that they are numbers; it makes a test of two operands of which `numbers`
-- says that they are numbers, and `tests` that they are tests
abbrev pub MakesNumber : Op2 → Type 0 → Type 0
MakesNumber Add both = both
MakesNumber Sub both = both
MakesNumber Mul both = both
MakesNumber Less both = ⊥
MakesNumber LessEqual both = ⊥
MakesNumber Greater both = ⊥
MakesNumber GreaterEqual both = ⊥
MakesNumber Equal both = ⊥
MakesNumber NotEqual both = ⊥
MakesNumber And both = ⊥
MakesNumber Or both = ⊥

abbrev pub MakesTest : Op2 → Type 0 → Type 0 → Type 0
MakesTest Add numbers tests = ⊥
MakesTest Sub numbers tests = ⊥
MakesTest Mul numbers tests = ⊥
MakesTest Less numbers tests = numbers
MakesTest LessEqual numbers tests = numbers
MakesTest Greater numbers tests = numbers
MakesTest GreaterEqual numbers tests = numbers
MakesTest Equal numbers tests = numbers
MakesTest NotEqual numbers tests = numbers
MakesTest And numbers tests = tests
MakesTest Or numbers tests = tests

-- a number expression over `vars` variables
abbrev pub IsNumber : ℕ → Expression → Type 0
IsNumber vars (number z) = ⊤
IsNumber vars (variable x) = x < vars
IsNumber vars free = ⊤
IsNumber vars (range lo hi) = IsInOrder lo hi
IsNumber vars (divided division e b) = IsNumber vars e × (b ≢ pos 0)
IsNumber vars (truth b) = ⊥
IsNumber vars (negative e) = IsNumber vars e
IsNumber vars (negation c) = ⊥
IsNumber vars (pair op l r) = MakesNumber op (IsNumber vars l × IsNumber vars r)

-- a test over `vars` variables
abbrev pub IsTest : ℕ → Expression → Type 0
IsTest vars (number z) = ⊥
IsTest vars (variable x) = ⊥
IsTest vars free = ⊤
IsTest vars (range lo hi) = ⊥
IsTest vars (divided division e b) = ⊥
IsTest vars (truth b) = ⊤
IsTest vars (negative e) = ⊥
IsTest vars (negation c) = IsTest vars c
IsTest vars (pair op l r) = MakesTest op (IsNumber vars l × IsNumber vars r) (IsTest vars l × IsTest vars r)

-- a statement, and a list of them, over `vars` variables
abbrev mutual
  pub IsStatement : ℕ → Statement → Type 0
  IsStatement vars (assign x e) = (x < vars) × IsNumber vars e
  IsStatement vars skip = ⊤
  IsStatement vars return = ⊤
  IsStatement vars break = ⊤
  IsStatement vars continue = ⊤
  IsStatement vars (if_else c first second) = IsTest vars c × IsBody vars first × IsBody vars second
  IsStatement vars (while_loop c body step) = IsTest vars c × IsBody vars body × IsBody vars step
  IsStatement vars (do_while body c) = IsBody vars body × IsTest vars c

  pub IsBody : ℕ → Statements → Type 0
  IsBody vars empty = ⊤
  IsBody vars (sequence first more) = IsStatement vars first × IsBody vars more

-- each statement still to do is over `vars` variables: so it is along the runs of a valid program
abbrev pub AreStatements : ℕ → Todo → Type 0
AreStatements vars [] = ⊤
AreStatements vars (one first ∷ rest) = IsStatement vars first × AreStatements vars rest
AreStatements vars (turn c body step ∷ rest) = IsStatement vars (while_loop c body step) × AreStatements vars rest

-- each `break` and `continue` stands inside the body of a loop, where `within` says whether all of these do
abbrev mutual
  pub IsInsideStatement : Bool → Statement → Type 0
  IsInsideStatement within break = IsTrue within
  IsInsideStatement within continue = IsTrue within
  IsInsideStatement within (assign x e) = ⊤
  IsInsideStatement within skip = ⊤
  IsInsideStatement within return = ⊤
  IsInsideStatement within (if_else c first second) = IsInside within first × IsInside within second
  IsInsideStatement within (while_loop c body step) = IsInside true body × IsInside within step
  IsInsideStatement within (do_while body c) = IsInside true body

  pub IsInside : Bool → Statements → Type 0
  IsInside within empty = ⊤
  IsInside within (sequence first more) = IsInsideStatement within first × IsInside within more

-- at most 15 names, no two of them equal, and a body over that many variables
pub record IsValid (names : List (List ℕ)) (body : Block) : Type 0 where
  pub few : length names ≤ 15
  pub distinct : AllPairs (λ a b. a ≢ b) names
  pub well_sorted : IsBody (length names) (statements body)
  pub inside : IsInside false (statements body)
