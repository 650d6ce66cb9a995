-- What statements tell: the names behind them, their faults, what they stand for, and the tokens at which that stands.
use Rattle.std.specs.Prelude.{ℕ, ◌+◌, nat_lt, nat_eq, Bool, true, false, if◌then◌else◌, List, [], ◌∷◌, ◌++◌, length, map, Option, None, Some, pos}
use Rattle.step_meaning.specs.declared.expression.Op2.TheVariants.{Add, Sub, Mul}
use Rattle.step_meaning.specs.Syntax as syntax
use Rattle.call_meaning.specs.Units.{Command, of_list}
use Rattle.call_meaning.specs.Units as unit
use Rattle.concrete_syntax.specs.declared.sign.Assignment.{Assignment}
use Rattle.concrete_syntax.specs.declared.sign.Step.{Step}
use Rattle.concrete_syntax.specs.declared.sign.Step.TheVariants.{Increment, Decrement}
use Rattle.concrete_syntax.specs.Trees.{Expression, Name, Action, assigns, steps, Simple, acts, steps_before, Call, Value, evaluates, answers, Part, Declaration, Start, starts_with_nothing, starts_with, declares, Statement, statement_at, StatementKind, simple, calls, gives, skip, braces, conditional, while_loop, do_loop, for_loop, return, break, continue, Otherwise, without, otherwise, Items, none, declaration, statement}
use Rattle.typed_expressions.specs.declared.fault.Fault.{Fault}
use Rattle.typed_expressions.specs.declared.fault.Rule.TheVariants.{Unknown, Twice, Mixed, Variables, Outside, Placed, Arguments}
use Rattle.elaboration.specs.declared.functions.Signature.{Signature}
use Rattle.elaboration.specs.declared.context.Body.{Body}
use Rattle.elaboration.specs.declared.context.Body.TheVariants.{Main, Valued, Valueless}
use Rattle.typed_expressions.specs.Scopes.{Scope, is_among, place_of, most_variables, declare, close}
use Rattle.elaboration.specs.Functions.{signature_of}
use Rattle.elaboration.specs.Contexts.{Context, deeper, looping}
use Rattle.elaboration.specs.Guards.{guards, around_statement, around_rest}
use Rattle.typed_expressions.specs.Faults.{fault}
use Rattle.typed_expressions.specs.Expressions.{as_test, unknown_name, expression_typed, expression_faults, number_faults}

-- What a walk over a tree finds: the names behind it, its faults, the statements that it stands for, their tokens by their numbers, and how many levels
-- are open at each of their calls. The token of a statement stands before those of its parts, but that of a `do` behind those of its body.
pub record Walked : Type 0 where
  pub scope : Scope
  pub faults : List Fault
  pub body : List Command
  pub tokens : List ℕ
  pub levels : List ℕ

abbrev pub nothing : Scope → Walked
nothing scope = record { scope = scope; faults = []; body = []; tokens = []; levels = [] }

-- one statement without parts
abbrev pub single : Scope → ℕ → List Fault → Command → Walked
single scope at faults s = record { scope = scope; faults = faults; body = s ∷ []; tokens = at ∷ []; levels = [] }

-- one walk and then another
abbrev pub joined : Walked → Walked → Walked
joined a b = record {
  scope = b.scope;
  faults = a.faults ++ b.faults;
  body = a.body ++ b.body;
  tokens = a.tokens ++ b.tokens;
  levels = a.levels ++ b.levels;
}

-- behind the end of a block or a `for`, whose walk this was
abbrev pub enclosed : Scope → Walked → Walked
enclosed outer w = record w { scope = close outer w.scope }

-- ── Simple statements: `x += e` means `x = x + (e)`, and `x++` and `++x` mean `x = x + 1` ──

abbrev pub assigned : ℕ → Assignment → syntax.Expression → syntax.Expression
assigned x Assignment.Assign e = e
assigned x Assignment.Add e = syntax.pair Add (syntax.variable x) e
assigned x Assignment.Subtract e = syntax.pair Sub (syntax.variable x) e
assigned x Assignment.Multiply e = syntax.pair Mul (syntax.variable x) e

abbrev pub stepped : ℕ → Step → syntax.Expression
stepped x Increment = syntax.pair Add (syntax.variable x) (syntax.number (pos 1))
stepped x Decrement = syntax.pair Sub (syntax.variable x) (syntax.number (pos 1))

abbrev pub action_meaning : Scope → ℕ → Action → syntax.Expression
action_meaning scope x (assigns assignment e) = assigned x assignment (expression_typed scope e).meaning
action_meaning scope x (steps step) = stepped x step

abbrev pub action_faults : Scope → Action → List Fault
action_faults scope (assigns assignment e) = number_faults scope e
action_faults scope (steps step) = []

abbrev pub simple_meaning : Scope → Simple → Command
simple_meaning scope (acts x action) =
    let place = place_of scope.declared x.bytes in unit.assign place (action_meaning scope place action)
simple_meaning scope (steps_before sign step x) = let place = place_of scope.declared x.bytes in unit.assign place (stepped place step)

abbrev pub simple_faults : Scope → Simple → List Fault
simple_faults scope (acts x action) = unknown_name scope x.at x.bytes ++ action_faults scope action
simple_faults scope (steps_before sign step x) = unknown_name scope x.at x.bytes

-- one at this token; in the start or the last part of a `for` that is its first
abbrev pub simple_walked : Scope → ℕ → Simple → Walked
simple_walked scope at s = single scope at (simple_faults scope s) (simple_meaning scope s)

abbrev pub simple_at : Simple → ℕ
simple_at (acts x action) = x.at
simple_at (steps_before sign step x) = sign

abbrev pub optional_simple_walked : Scope → Option Simple → Walked
optional_simple_walked scope (Some s) = simple_walked scope (simple_at s) s
optional_simple_walked scope None = nothing scope

-- ── Calls: arguments are numbers ──

abbrev pub arguments_faults : Scope → List Expression → List Fault
arguments_faults scope [] = []
arguments_faults scope (e ∷ more) = number_faults scope e ++ arguments_faults scope more

abbrev pub arguments_meaning : Scope → List Expression → List syntax.Expression
arguments_meaning scope arguments = map (λ e. (expression_typed scope e).meaning) arguments

-- The faults of a call at the name of its function: there is none of this name; it gives no value, where one is wanted; it has another number of
-- parameters.
abbrev pub value_faults : Bool → Bool → ℕ → List Fault
value_faults true false at = fault Mixed at ∷ []
value_faults wanted valued at = []

abbrev pub signature_faults : Option Signature → ℕ → ℕ → Bool → List Fault
signature_faults None at count wanted = fault Unknown at ∷ []
signature_faults (Some s) at count wanted = value_faults wanted s.valued at ++ (if nat_eq count s.params then [] else fault Arguments at ∷ [])

-- a call at the name of its function, by the place of the variable that its value goes to, if it goes to one
abbrev pub is_wanted : Option ℕ → Bool
is_wanted (Some x) = true
is_wanted None = false

abbrev pub call_walked : Context → Scope → Option ℕ → Call → Walked
call_walked c scope target call = record {
  scope = scope;
  faults =
      signature_faults (signature_of c.functions call.function.bytes) call.function.at (length call.arguments) (is_wanted target)
      ++ arguments_faults scope call.arguments;
  body = unit.call target (place_of c.functions.names call.function.bytes) (arguments_meaning scope call.arguments) ∷ [];
  tokens = call.function.at ∷ [];
  levels = c.level ∷ [];
}

-- ── Declarations: a name may be used from behind its own initialiser on ──

-- a name that was declared before, again
abbrev pub again_faults : ℕ → Option Value → List Fault
again_faults at (Some value) = []
again_faults at None = fault Twice at ∷ []

-- A name is declared twice where it may be used already, or where it was declared before and has no initialiser now; a new name wants
-- room.
abbrev pub name_faults : Scope → Name → Option Value → List Fault
name_faults scope x initialiser =
    if is_among scope.visible x.bytes then fault Twice x.at ∷ []
    else if is_among scope.declared x.bytes then again_faults x.at initialiser
    else if nat_lt (scope.others + length scope.declared) most_variables then [] else fault Variables x.at ∷ []

-- An initialised name is assigned, and that stands at the name, or is given what a call answers, which stands at the name of its function; one without an
-- initialiser is no statement.
abbrev pub is_bare : Option Value → Bool
is_bare (Some value) = false
is_bare None = true

abbrev pub initialiser_walked : Context → Scope → Scope → Name → Option Value → Walked
initialiser_walked c scope behind x (Some (evaluates e)) =
    single behind x.at (number_faults scope e) (unit.assign (place_of behind.declared x.bytes) (expression_typed scope e).meaning)
initialiser_walked c scope behind x (Some (answers call)) = call_walked c scope (Some (place_of behind.declared x.bytes)) call
initialiser_walked c scope behind x None = nothing behind

abbrev pub part_walked : Context → Scope → Part → Walked
part_walked c scope part =
    let behind = declare scope part.declared.bytes (is_bare part.initialiser) in
    let w = initialiser_walked c scope behind part.declared part.initialiser in
    record w { scope = behind; faults = name_faults scope part.declared part.initialiser ++ w.faults }

abbrev pub parts_walked : Context → Scope → List Part → Walked
parts_walked c scope [] = nothing scope
parts_walked c scope (part ∷ more) = let w = part_walked c scope part in joined w (parts_walked c w.scope more)

abbrev pub declaration_walked : Context → Scope → Declaration → Walked
declaration_walked c scope d = parts_walked c scope (d.part ∷ d.more)

-- ── The start and the test of a `for` ──

abbrev pub start_walked : Context → Scope → Start → Walked
start_walked c scope starts_with_nothing = nothing scope
start_walked c scope (starts_with s) = simple_walked scope (simple_at s) s
start_walked c scope (declares d) = declaration_walked c scope d

abbrev pub optional_faults : Scope → Option Expression → List Fault
optional_faults scope (Some e) = expression_faults scope e
optional_faults scope None = []

-- a missing test is `true`
abbrev pub optional_test : Scope → Option Expression → syntax.Expression
optional_test scope (Some e) = as_test (expression_typed scope e)
optional_test scope None = syntax.truth true

-- ── Returns: one in `main` may have any expression, which isn't asked for; one of a function has a value where the function gives one, and nothing follows it ──

abbrev pub misplaced : Bool → ℕ → List Fault
misplaced true at = []
misplaced false at = fault Placed at ∷ []

abbrev pub return_faults : Body → Bool → Scope → ℕ → Option Expression → List Fault
return_faults Main last scope at value = optional_faults scope value
return_faults Valued last scope at (Some e) = misplaced last at ++ number_faults scope e
return_faults Valued last scope at None = fault Placed at ∷ []
return_faults Valueless last scope at (Some e) = fault Placed at ∷ number_faults scope e
return_faults Valueless last scope at None = misplaced last at

abbrev pub returned_value : Body → Scope → Option Expression → Option syntax.Expression
returned_value Main scope value = None
returned_value body scope (Some e) = Some (expression_typed scope e).meaning
returned_value body scope None = None

abbrev pub return_walked : Context → Scope → ℕ → Option Expression → Walked
return_walked c scope at value = single scope at (return_faults c.body c.last scope at value) (unit.return (returned_value c.body scope value))

-- ── Statements: braces leave no trace; a `for` is its start, and then a loop with its step, which a `while` has none of ──

-- the fault of a `break` or `continue` at this token, unless it is inside the body of a loop
abbrev pub outside_faults : Bool → ℕ → List Fault
outside_faults true at = []
outside_faults false at = fault Outside at ∷ []

-- an `if` at this token, by the faults of its test, its test, and what walks over its parts find
abbrev pub chosen : ℕ → List Fault → syntax.Expression → Walked → Walked → Walked
chosen at faults test first second = record {
  scope = second.scope;
  faults = faults ++ (first.faults ++ second.faults);
  body = unit.if_else test (of_list first.body) (of_list second.body) ∷ [];
  tokens = at ∷ (first.tokens ++ second.tokens);
  levels = first.levels ++ second.levels;
}

-- a loop, by its test, its step and its body
abbrev pub looped : ℕ → List Fault → syntax.Expression → Walked → Walked → Walked
looped at faults test step body = record {
  scope = body.scope;
  faults = faults ++ (step.faults ++ body.faults);
  body = unit.while_loop test (of_list body.body) (of_list step.body) ∷ [];
  tokens = at ∷ (body.tokens ++ step.tokens);
  levels = body.levels ++ step.levels;
}

-- a `do` whose `while` is this token, by its body, and its test behind that
abbrev pub done : ℕ → Walked → List Fault → syntax.Expression → Walked
done end body faults test = record {
  scope = body.scope;
  faults = body.faults ++ faults;
  body = unit.do_while (of_list body.body) test ∷ [];
  tokens = body.tokens ++ end ∷ [];
  levels = body.levels;
}

-- what follows a statement: in the place of its `else`, where it guards that
abbrev pub followed : Bool → List Command → List Command → List Command
followed true (unit.if_else test first second ∷ []) rest = unit.if_else test first (of_list rest) ∷ []
followed guarded first rest = first ++ rest

abbrev mutual
  pub statement_walked : Context → Scope → Statement → Walked
  statement_walked c scope (statement_at at kind) = kind_walked c scope at kind

  pub kind_walked : Context → Scope → ℕ → StatementKind → Walked
  kind_walked c scope at (simple s) = simple_walked scope at s
  kind_walked c scope at (calls call) = call_walked c scope None call
  kind_walked c scope at (gives x call) =
      let w = call_walked c scope (Some (place_of scope.declared x.bytes)) call in
      record w { faults = unknown_name scope x.at x.bytes ++ w.faults }
  kind_walked c scope at skip = single scope at [] unit.skip
  kind_walked c scope at (braces all) = enclosed scope (items_walked (deeper c) scope all)
  kind_walked c scope at (conditional test part other) =
      let first = statement_walked (deeper c) scope part in
      chosen at (expression_faults scope test) (as_test (expression_typed scope test)) first (otherwise_walked (deeper c) first.scope other)
  kind_walked c scope at (while_loop test body) =
      looped at (expression_faults scope test) (as_test (expression_typed scope test)) (nothing scope) (statement_walked (looping c) scope body)
  kind_walked c scope at (do_loop body end test) =
      let inner = statement_walked (looping c) scope body in
      done end inner (expression_faults inner.scope test) (as_test (expression_typed inner.scope test))
  kind_walked c scope at (for_loop start test step body) =
      let before = start_walked (deeper c) scope start in
      let inside = before.scope in
      enclosed scope
      (joined before
      (looped at (optional_faults inside test) (optional_test inside test) (optional_simple_walked inside step)
      (statement_walked (looping c) inside body)))
  kind_walked c scope at (return value) = return_walked c scope at value
  kind_walked c scope at break = single scope at (outside_faults c.in_loop at) unit.break
  kind_walked c scope at continue = single scope at (outside_faults c.in_loop at) unit.continue

  pub otherwise_walked : Context → Scope → Otherwise → Walked
  otherwise_walked c scope without = nothing scope
  otherwise_walked c scope (otherwise s) = statement_walked (deeper c) scope s

  pub items_walked : Context → Scope → Items → Walked
  items_walked c scope none = nothing scope
  items_walked c scope (declaration d more) = let w = declaration_walked c scope d in joined w (items_walked c w.scope more)
  items_walked c scope (statement s more) =
      let w = statement_walked (around_statement c s more) scope s in
      let rest = items_walked (around_rest c s) w.scope more in
      record (joined w rest) { body = followed (guards c s) w.body rest.body }
