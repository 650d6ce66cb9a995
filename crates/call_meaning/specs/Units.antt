-- The abstract syntax of programs of several functions, without pointers and places in the text.
use Rattle.std.specs.Prelude.{ℕ, Bool, Option, List, [], ◌∷◌}
use Rattle.step_meaning.specs.Syntax.{Expression}

-- A statement of a function, over the function's own variables, and a list of them. A call has the place of the variable that its value goes to, if it
-- goes to one, the number of the function that is called, and an argument for each of its parameters. In `main` a `return` has no value.
mutual
  pub data Command : Type 0 where
    assign : ℕ → Expression → Command
    call : Option ℕ → ℕ → List Expression → Command
    skip : Command
    return : Option Expression → Command
    break : Command
    continue : Command
    if_else : Expression → Commands → Commands → Command
    while_loop : Expression → Commands → Commands → Command
    do_while : Commands → Expression → Command

  pub data Commands : Type 0 where
    empty : Commands
    sequence : Command → Commands → Commands

-- the `Commands` that a list is
abbrev pub of_list : List Command → Commands
of_list [] = empty
of_list (first ∷ more) = sequence first (of_list more)

-- A routine is a function, or `main`, as runs see it: the place of its first variable among those of the whole program; how many variables it has; how
-- many of them, the first ones, are its parameters; the places of those declared without initialiser, of which no parameter is one; whether its calls
-- have a value; and its body.
pub record Routine : Type 0 where
  pub base : ℕ
  pub vars : ℕ
  pub params : ℕ
  pub free : List ℕ
  pub valued : Bool
  pub body : Commands

-- The routines of a program by their numbers: the functions in the order of the text, and then `main`, whose number is how many they are.
abbrev pub Table : Type 0
Table = ℕ → Routine
