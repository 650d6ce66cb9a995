-- Each variable is set before it is read: parameters by the call, a variable declared without initialiser when its function is entered, every other by an
-- assignment above it in its own block or in one around that. So it is in each program that is a text, since a name's scope begins behind its
-- initialiser; here it is said of statements, which know no scopes.
use Rattle.std.specs.Prelude.{◌≡◌, ◌≢◌, ℕ, ◌+◌, ◌<◌, ◌≤◌, nat_eq, nat_lt, Bool, false, ◌||◌, IsTrue, Option, None, Some, List, [], ◌∷◌, length, ⊤}
use Rattle.step_meaning.specs.Syntax.{Expression, number, variable, free, range, truth, negative, negation, pair, divided}
use Rattle.call_meaning.specs.Units.{Command, Commands, assign, call, skip, return, break, continue, if_else, while_loop, do_while, empty, sequence, Routine, Table}

-- which variables of a function are set
abbrev pub Places : Type 0
Places = ℕ → Bool

abbrev pub also : ℕ → Places → Places
also x shown = λ y. nat_eq y x || shown y

abbrev pub among : List ℕ → Places
among [] y = false
among (x ∷ more) y = nat_eq y x || among more y

-- an expression reads only variables that are set
abbrev pub Reads : Places → Expression → Type 0
Reads shown (number z) = ⊤
Reads shown (variable x) = IsTrue (shown x)
Reads shown free = ⊤
Reads shown (range lo hi) = ⊤
Reads shown (truth b) = ⊤
Reads shown (negative e) = Reads shown e
Reads shown (negation c) = Reads shown c
Reads shown (pair op l r) = Reads shown l × Reads shown r
Reads shown (divided division e by) = Reads shown e

abbrev pub AllRead : Places → List Expression → Type 0
AllRead shown [] = ⊤
AllRead shown (a ∷ more) = Reads shown a × AllRead shown more

abbrev pub ValueReads : Places → Option Expression → Type 0
ValueReads shown (Some e) = Reads shown e
ValueReads shown None = ⊤

abbrev pub TargetIsIn : ℕ → Option ℕ → Type 0
TargetIsIn vars (Some x) = x < vars
TargetIsIn vars None = ⊤

-- which are set behind a statement
abbrev pub behind : Places → Command → Places
behind shown (assign x e) = also x shown
behind shown (call (Some x) f arguments) = also x shown
behind shown _ = shown

-- a statement of a function with so many variables, before which these are set, and a list of them
abbrev mutual
  pub IsSet : Table → ℕ → Places → Command → Type 0
  IsSet table vars shown (assign x e) = (x < vars) × Reads shown e
  IsSet table vars shown (call target f arguments) = TargetIsIn vars target × AllRead shown arguments × (length arguments ≡ (table f).params)
  IsSet table vars shown skip = ⊤
  IsSet table vars shown (return value) = ValueReads shown value
  IsSet table vars shown break = ⊤
  IsSet table vars shown continue = ⊤
  IsSet table vars shown (if_else c first second) = Reads shown c × AreSet table vars shown first × AreSet table vars shown second
  IsSet table vars shown (while_loop c body step) = Reads shown c × AreSet table vars shown body × AreSet table vars shown step
  IsSet table vars shown (do_while body c) = Reads shown c × AreSet table vars shown body

  pub AreSet : Table → ℕ → Places → Commands → Type 0
  AreSet table vars shown empty = ⊤
  AreSet table vars shown (sequence first more) = IsSet table vars shown first × AreSet table vars (behind shown first) more

-- which are set where a function is entered, and where `main` begins
abbrev pub given : Routine → Places
given routine = λ y. nat_lt y routine.params || among routine.free y

abbrev pub all_of : Routine → Places
all_of routine = λ y. nat_lt y routine.vars

-- a table in which each variable is set before it is read, and the variables of each routine have places of their own, at most 16 in all
pub record IsTidy (table : Table) (main : ℕ) : Type 0 where
  pub functions : (k : ℕ) → k < main → AreSet table (table k).vars (given (table k)) (table k).body
  pub whole : AreSet table (table main).vars (all_of (table main)) (table main).body
  pub params : (k : ℕ) → k < main → (table k).params ≤ (table k).vars
  pub free : (k : ℕ) → k < main → (y : ℕ) → IsTrue (among (table k).free y) → y < (table k).vars
  pub first : (table main).base ≡ 0
  pub room : (k : ℕ) → k ≤ main → (table k).base + (table k).vars ≤ 16
  pub apart : (j k : ℕ) → j ≤ main → k ≤ main → j ≢ k → (x y : ℕ) → x < (table j).vars → y < (table k).vars
      → (table j).base + x ≢ (table k).base + y
