-- The routines that a unit has, and the names of the program that it becomes.
use Rattle.std.specs.Prelude.{ℕ, zero, suc, ◌+◌, Bool, true, false, Option, None, Some, List, [], ◌∷◌, ◌++◌, length, map}
use Rattle.step_meaning.specs.Syntax.{Expression, expression}
use Rattle.step_meaning.specs.declared.expression.Expr.{Expr}
use Rattle.call_meaning.specs.declared.statement.UnitBlock.{UnitBlock, Then'}
use Rattle.call_meaning.specs.declared.statement.UnitBlock.TheVariants.{End}
use Rattle.call_meaning.specs.declared.statement.UnitStmt.{UnitStmt}
use Rattle.call_meaning.specs.declared.statement.UnitKind.{UnitKind}
use Rattle.call_meaning.specs.declared.statement.UnitKind.TheVariants.{Assign, Call, Skip, Return, Break, Continue, If, While, Do}
use Rattle.call_meaning.specs.declared.statement.Func.{Func}
use Rattle.call_meaning.specs.Units.{Command, Commands, assign, call, skip, return, break, continue, if_else, while_loop, do_while, empty, sequence, Routine, Table}

abbrev pub value_of : Option Expr → Option Expression
value_of (Some e) = Some (expression e)
value_of None = None

-- what a `UnitBlock` is, statement for statement
abbrev mutual
  pub commands : UnitBlock → Commands
  commands End = empty
  commands (Then' p at kind q rest) = sequence (command kind) (commands rest)

  pub command : UnitKind → Command
  command (Assign x e) = assign x (expression e)
  command (Call target f arguments level) = call target f (map expression arguments)
  command Skip = skip
  command (Return value) = return (value_of value)
  command Break = break
  command Continue = continue
  command (If c y n) = if_else (expression c) (commands y) (commands n)
  command (While c b s) = while_loop (expression c) (commands b) (commands s)
  command (Do b c) = do_while (commands b) (expression c)

-- a function gives a value where the last statement of its body is a `return` with one, or an `if` whose first part gives one
abbrev pub gives_value : Commands → Bool
gives_value empty = false
gives_value (sequence (return (Some e)) empty) = true
gives_value (sequence (if_else c first second) empty) = gives_value first
gives_value (sequence first more) = gives_value more

-- the places at which the list says true, where its first is this place
abbrev pub places_from : ℕ → List Bool → List ℕ
places_from n [] = []
places_from n (true ∷ more) = n ∷ places_from (n + 1) more
places_from n (false ∷ more) = places_from (n + 1) more

-- a function, whose first variable has this place
abbrev pub routine : ℕ → Func → Routine
routine base f = record {
  base = base;
  vars = length f.names;
  params = f.params;
  free = places_from 0 f.free;
  valued = gives_value (commands f.body);
  body = commands f.body;
}

-- `main`, with its names and its body
abbrev pub main_routine : List (List ℕ) → UnitBlock → Routine
main_routine names body = record { base = 0; vars = length names; params = 0; free = []; valued = false; body = commands body }

-- the variables of `main` come first, and then those of the functions, in the order of the text
abbrev pub table_from : ℕ → List Func → Routine → Table
table_from base [] main k = main
table_from base (f ∷ more) main zero = routine base f
table_from base (f ∷ more) main (suc k) = table_from (base + length f.names) more main k

abbrev pub table_of : List Func → List (List ℕ) → UnitBlock → Table
table_of funcs names body = table_from (length names) funcs (main_routine names body)

-- the names of the whole program: `main`'s, and then those of each function behind its own name and a dot, code 46
abbrev pub qualified : List ℕ → List (List ℕ) → List (List ℕ)
qualified function names = map (λ name. function ++ 46 ∷ name) names

abbrev pub all_qualified : List (List ℕ) → List Func → List (List ℕ)
all_qualified (function ∷ more) (f ∷ rest) = qualified function f.names ++ all_qualified more rest
all_qualified [] funcs = []
all_qualified (function ∷ more) [] = []

abbrev pub whole_names : List (List ℕ) → List Func → List (List ℕ) → List (List ℕ)
whole_names func_names funcs names = names ++ all_qualified func_names funcs

-- What follows has no part in the headline.

-- the statements that a list of `UnitStmt` is
abbrev pub parts : List UnitStmt → List Command
parts all = map (λ each. command each.kind) all
