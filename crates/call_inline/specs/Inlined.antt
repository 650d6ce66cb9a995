-- The program without calls that a program of functions becomes: the body of a function stands in the place of each of its calls.
use Rattle.std.specs.Prelude.{ℕ, zero, suc, ◌+◌, nat_eq, if◌then◌else◌, Option, None, Some, List, [], ◌∷◌}
use Rattle.step_meaning.specs.Syntax.{Expression, Statement, Statements}
use Rattle.step_meaning.specs.Syntax as syntax
use Rattle.call_meaning.specs.Units.{Command, Commands, assign, call, skip, return, break, continue, if_else, while_loop, do_while, empty, sequence, Routine, Table}
use Rattle.call_inline.specs.Moved.{moved}

-- one list of statements behind the other
abbrev pub followed : Statements → Statements → Statements
followed syntax.empty rest = rest
followed (syntax.sequence first more) rest = syntax.sequence first (followed more rest)

abbrev pub single : Statement → Statements
single s = syntax.sequence s syntax.empty

-- what a `return` does: it ends `main`, gives the variable at this place of the whole program the value, or drops it
pub data Ending : Type 0 where
  ends : Ending
  gives : ℕ → Ending
  drops : Ending

abbrev pub ending_of : Option ℕ → Ending
ending_of (Some x) = gives x
ending_of None = drops

abbrev pub ended : Ending → ℕ → Option Expression → Statement
ended ends base value = syntax.return
ended (gives x) base (Some e) = syntax.assign x (moved base e)
ended (gives x) base None = syntax.skip
ended drops base value = syntax.skip

-- what a call becomes, by the place of the whole program that its value goes to, if it goes to one, and its arguments over the whole program
abbrev pub Callee : Type 0
Callee = Option ℕ → List Expression → Statements

-- each parameter gets its argument, from this place on; and each variable declared without initialiser any number
abbrev pub passed : ℕ → List Expression → Statements
passed place [] = syntax.empty
passed place (a ∷ more) = syntax.sequence (syntax.assign place a) (passed (place + 1) more)

abbrev pub freed : ℕ → List ℕ → Statements
freed base [] = syntax.empty
freed base (l ∷ more) = syntax.sequence (syntax.assign (base + l) syntax.free) (freed base more)

abbrev pub target_from : ℕ → Option ℕ → Option ℕ
target_from base (Some x) = Some (base + x)
target_from base None = None

abbrev pub all_moved : ℕ → List Expression → List Expression
all_moved base [] = []
all_moved base (a ∷ more) = moved base a ∷ all_moved base more

-- what a statement and a list of them become
abbrev mutual
  pub inlined : (ℕ → Callee) → ℕ → Ending → Command → Statements
  inlined callee base ending (assign x e) = single (syntax.assign (base + x) (moved base e))
  inlined callee base ending (call target f arguments) = callee f (target_from base target) (all_moved base arguments)
  inlined callee base ending skip = single syntax.skip
  inlined callee base ending (return value) = single (ended ending base value)
  inlined callee base ending break = single syntax.break
  inlined callee base ending continue = single syntax.continue
  inlined callee base ending (if_else c first second) =
      single (syntax.if_else (moved base c) (all_inlined callee base ending first) (all_inlined callee base ending second))
  inlined callee base ending (while_loop c body step) =
      single (syntax.while_loop (moved base c) (all_inlined callee base ending body) (all_inlined callee base ending step))
  inlined callee base ending (do_while body c) = single (syntax.do_while (all_inlined callee base ending body) (moved base c))

  pub all_inlined : (ℕ → Callee) → ℕ → Ending → Commands → Statements
  all_inlined callee base ending empty = syntax.empty
  all_inlined callee base ending (sequence first more) =
      followed (inlined callee base ending first) (all_inlined callee base ending more)

-- what a call of this function becomes, where calls in its body become what `callee` says
abbrev pub put : (ℕ → Callee) → Routine → Callee
put callee routine target arguments =
    followed (passed routine.base arguments)
    (followed (freed routine.base routine.free) (all_inlined callee routine.base (ending_of target) routine.body))

-- what calls become of the functions below this number
abbrev pub callees : Table → ℕ → ℕ → Callee
callees table zero f = λ target arguments. syntax.empty
callees table (suc n) f = if nat_eq f n then put (callees table n) (table n) else callees table n f

-- the body of the whole program, where `main` has this number
abbrev pub inlined_body : Table → ℕ → Statements
inlined_body table main = all_inlined (callees table main) (table main).base ends (table main).body
