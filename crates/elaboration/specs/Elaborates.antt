-- Which program of functions a concrete tree stands for, or its first fault of names, sorts, jumps, divisors, returns and calls.
use Rattle.std.specs.Prelude.{◌≡◌, ℕ, ◌+◌, ◌-◌, Bool, true, false, if◌then◌else◌, List, [], ◌∷◌, ◌++◌, length, map, None, ⊤}
use Rattle.source_lex.specs.declared.token.Token.{Token}
use Rattle.concrete_syntax.specs.Trees.{Name as Named, Parameters, nothing, named, Function, Program}
use Rattle.step_meaning.specs.Syntax.{Statements}
use Rattle.step_meaning.specs.Syntax as syntax
use Rattle.call_meaning.specs.declared.statement.Func.{Func}
use Rattle.call_meaning.specs.declared.statement.UnitBlock.{UnitBlock}
use Rattle.call_meaning.specs.Units.{Command, Commands, of_list}
use Rattle.call_meaning.specs.Units as unit
use Rattle.call_meaning.specs.Tables.{commands}
use Rattle.call_meaning.specs.Offsets.{offsets, levels}
use Rattle.typed_expressions.specs.declared.fault.Fault as faults
use Rattle.typed_expressions.specs.declared.fault.Rule.TheVariants.{Twice, Placed}
use Rattle.elaboration.specs.declared.functions.Signature.{Signature}
use Rattle.elaboration.specs.declared.context.Body.TheVariants.{Main}
use Rattle.elaboration.specs.declared.front.Refusal.{Refusal}
use Rattle.elaboration.specs.declared.front.Refusal.TheVariants.{Fault, Memory}
use Rattle.typed_expressions.specs.Scopes.{Scope, Name, no_names, declare, is_among}
use Rattle.typed_expressions.specs.Faults.{fault, IsFirstOf}
use Rattle.elaboration.specs.Functions.{Functions, no_functions, with_function}
use Rattle.elaboration.specs.Contexts.{at_top, body_of}
use Rattle.elaboration.specs.Guards.{items_return}
use Rattle.elaboration.specs.Levels.{items_levels}
use Rattle.typed_expressions.specs.Offsets.{offsets_in}
use Rattle.elaboration.specs.Statements.{Walked, items_walked, name_faults}

-- ── One function: its parameters are declared, each of them once, and may be used in its whole body ──

abbrev pub parameters_of : Parameters → List Named
parameters_of (nothing void) = []
parameters_of (named first more) = first ∷ more

abbrev pub behind_parameters : Scope → List Named → Scope
behind_parameters scope [] = scope
behind_parameters scope (x ∷ more) = behind_parameters (declare scope x.bytes false) more

abbrev pub parameters_faults : Scope → List Named → List faults.Fault
parameters_faults scope [] = []
parameters_faults scope (x ∷ more) = name_faults scope x None ++ parameters_faults (declare scope x.bytes false) more

-- what its body may use first, where the functions before have so many variables, and what a walk over its body finds
abbrev pub entered : ℕ → Function → Scope
entered others f = behind_parameters (no_names others) (parameters_of f.parameters)

abbrev pub function_walked : Functions → ℕ → Function → Walked
function_walked functions others f = items_walked (at_top functions (body_of f.valued)) (entered others f) f.items

-- a function that gives a value always returns: the fault where it doesn't is at its `}`, which is the token before the one behind it
abbrev pub missing_faults : Bool → Bool → ℕ → List faults.Fault
missing_faults true false behind = fault Placed (behind - 1) ∷ []
missing_faults valued ends behind = []

-- the faults of a function
abbrev pub twice_faults : Functions → Named → List faults.Fault
twice_faults functions x = if is_among functions.names x.bytes then fault Twice x.at ∷ [] else []

abbrev pub function_faults : Functions → ℕ → Function → List faults.Fault
function_faults functions others f =
    let w = function_walked functions others f in
    twice_faults functions f.name
    ++ (parameters_faults (no_names others) (parameters_of f.parameters)
    ++ (w.faults ++ missing_faults f.valued (items_return f.items) f.behind))

-- ── All functions: each is known from its end on, and the variables of all of them together are few enough ──

abbrev pub signature : ℕ → Function → Signature
signature others f = record { params = length (entered others f).declared; valued = f.valued }

abbrev pub functions_behind : Functions → ℕ → Function → Functions
functions_behind functions others f = with_function functions f.name.bytes (signature others f)

abbrev pub others_behind : Functions → ℕ → Function → ℕ
others_behind functions others f = others + length (function_walked functions others f).scope.declared

-- the functions behind these, which have so many variables; how many all have; and their faults
abbrev pub known_behind : Functions → ℕ → List Function → Functions
known_behind functions others [] = functions
known_behind functions others (f ∷ more) = known_behind (functions_behind functions others f) (others_behind functions others f) more

abbrev pub variables_behind : Functions → ℕ → List Function → ℕ
variables_behind functions others [] = others
variables_behind functions others (f ∷ more) = variables_behind (functions_behind functions others f) (others_behind functions others f) more

abbrev pub functions_faults : Functions → ℕ → List Function → List faults.Fault
functions_faults functions others [] = []
functions_faults functions others (f ∷ more) =
    function_faults functions others f ++ functions_faults (functions_behind functions others f) (others_behind functions others f) more

-- ── Programs ──

abbrev pub known : Program → Functions
known p = known_behind no_functions 0 p.functions

-- what a walk over the body of `main` finds
abbrev pub walked : Program → Walked
walked p = items_walked (at_top (known p) Main) (no_names (variables_behind no_functions 0 p.functions)) p.items

-- all its faults of names, sorts, jumps, divisors, returns and calls
abbrev pub faults_of : Program → List faults.Fault
faults_of p = functions_faults no_functions 0 p.functions ++ (walked p).faults

-- the names of `main`
abbrev pub names_of : Program → List Name
names_of p = (walked p).scope.declared

-- what a function is: how many of its variables are parameters, the levels that are open in its body, its names, which of its variables are declared
-- without initialiser, its body, and in the order of the tree the offsets of its statements and the levels at its calls
pub record Made : Type 0 where
  pub params : ℕ
  pub levels : ℕ
  pub names : List Name
  pub free : List Bool
  pub body : Commands
  pub offsets : List ℕ
  pub call_levels : List ℕ

abbrev pub function_made : List Token → Functions → ℕ → Function → Made
function_made tokens functions others f =
    let w = function_walked functions others f in
    record {
      params = length (entered others f).declared;
      levels = items_levels 1 f.items;
      names = w.scope.declared;
      free = w.scope.free;
      body = of_list w.body;
      offsets = offsets_in tokens w.tokens;
      call_levels = w.levels;
    }

abbrev pub functions_made : List Token → Functions → ℕ → List Function → List Made
functions_made tokens functions others [] = []
functions_made tokens functions others (f ∷ more) =
    function_made tokens functions others f
    ∷ functions_made tokens (functions_behind functions others f) (others_behind functions others f) more

abbrev pub made_of : Func → Made
made_of f = record {
  params = f.params;
  levels = f.levels;
  names = f.names;
  free = f.free;
  body = commands f.body;
  offsets = offsets f.body;
  call_levels = levels f.body;
}

-- the tree has no such fault, and stands for the unit of these functions, their names, and the names and the body of `main`
pub record StandsForUnit (tokens : List Token) (p : Program) (func_names : List Name) (funcs : List Func) (names : List Name) (body : UnitBlock) : Type 0 where
  pub faultless : faults_of p ≡ []
  pub knows : func_names ≡ (known p).names
  pub functions : map made_of funcs ≡ functions_made tokens no_functions 0 p.functions
  pub declares : names ≡ names_of p
  pub means : commands body ≡ of_list (walked p).body
  pub stands : offsets body ≡ offsets_in tokens (walked p).tokens
  pub levels : levels body ≡ (walked p).levels

-- What follows has no part in the headline.

-- a body without calls; where one has a call, which no program without functions has, that becomes `;`
abbrev mutual
  pub plain_command : Command → syntax.Statement
  plain_command (unit.assign x e) = syntax.assign x e
  plain_command (unit.call target f arguments) = syntax.skip
  plain_command unit.skip = syntax.skip
  plain_command (unit.return value) = syntax.return
  plain_command unit.break = syntax.break
  plain_command unit.continue = syntax.continue
  plain_command (unit.if_else c first second) = syntax.if_else c (plain first) (plain second)
  plain_command (unit.while_loop c body step) = syntax.while_loop c (plain body) (plain step)
  plain_command (unit.do_while body c) = syntax.do_while (plain body) c

  pub plain : Commands → Statements
  plain unit.empty = syntax.empty
  plain (unit.sequence first more) = syntax.sequence (plain_command first) (plain more)

abbrev pub plain_body : Program → Statements
plain_body p = plain (of_list (walked p).body)

-- the tree, of a program without functions, has no such fault, and stands for the program of these names and this body
pub record StandsFor (p : Program) (names : List Name) (body : Statements) : Type 0 where
  pub faultless : faults_of p ≡ []
  pub declares : names ≡ names_of p
  pub means : body ≡ plain_body p

-- the offsets in the text of the statements of `main`
abbrev pub program_offsets : List Token → Program → List ℕ
program_offsets tokens p = offsets_in tokens (walked p).tokens

-- the tree's first fault of names, sorts, jumps, divisors, returns and calls
abbrev pub HasFirstFault : Program → faults.Fault → Type 0
HasFirstFault p f = IsFirstOf (faults_of p) f

-- what may be answered in place of a program: the tree's first fault, or that memory ran out
abbrev pub IsRefusalOf : Program → Refusal → Type 0
IsRefusalOf p (Fault f) = HasFirstFault p f
IsRefusalOf p (Memory error) = ⊤
