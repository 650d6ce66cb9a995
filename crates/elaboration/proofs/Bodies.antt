-- Without faults, the expressions of statements have the sorts that their places need.
use Rattle.std.proofs.Common.{◌≡◌, ℕ, ◌+◌, ◌<◌, ◌≤◌, Bool, true, false, nat_lt, List, [], ◌∷◌, ◌++◌, Option, None, Some, length, refl, subst, arith, if◌then◌else◌, ◌⊎◌, inl, inr}
use Rattle.step_meaning.specs.Syntax as syntax
use Rattle.step_meaning.specs.Valid.{IsNumber, IsTest}
use Rattle.call_meaning.specs.Sorts.{AllNumbers, ValueIsNumber, AreSorted}
use Rattle.call_meaning.specs.Units.{Command, of_list}
use Rattle.call_meaning.specs.Units as unit
use Rattle.concrete_syntax.specs.declared.sign.Assignment.{Assignment}
use Rattle.concrete_syntax.specs.declared.sign.Step.{Step}
use Rattle.concrete_syntax.specs.declared.sign.Step.TheVariants.{Increment, Decrement}
use Rattle.concrete_syntax.specs.Trees.{Expression, Name, Action, assigns, steps, Simple, acts, steps_before, Value, evaluates, answers, Part, Start, starts_with_nothing, starts_with, declares, Call, Statement, statement_at, simple, calls, gives, skip, braces, conditional, while_loop, do_loop, for_loop, return, break, continue, Otherwise, without, otherwise, Items, none, declaration, statement}
use Rattle.typed_expressions.specs.declared.fault.Rule.TheVariants.{Twice, Variables}
use Rattle.elaboration.specs.declared.context.Body.{Body}
use Rattle.elaboration.specs.declared.context.Body.TheVariants.{Main, Valued, Valueless}
use Rattle.elaboration.specs.Contexts.{Context, deeper, looping}
use Rattle.elaboration.specs.Guards.{guards, around_statement, around_rest}
use Rattle.elaboration.specs.Functions.{signature_of}
use Rattle.typed_expressions.specs.Scopes.{Scope, is_among, place_of, with_variable, most_variables, declare}
use Rattle.typed_expressions.specs.Faults.{fault}
use Rattle.typed_expressions.specs.Expressions.{unknown_name, expression_typed, expression_faults, number_faults}
use Rattle.elaboration.specs.Statements.{assigned, stepped, action_meaning, action_faults, simple_meaning, simple_faults, optional_simple_walked, name_faults, again_faults, is_bare, initialiser_walked, arguments_faults, arguments_meaning, signature_faults, is_wanted, call_walked, misplaced, return_faults, returned_value, followed, part_walked, parts_walked, declaration_walked, start_walked, optional_faults, optional_test, statement_walked, otherwise_walked, items_walked}
use Rattle.typed_expressions.proofs.Names.{among_last, among_cases, place_below}
use Rattle.elaboration.proofs.Scoping.{statement_visible}
use Rattle.elaboration.proofs.Following.{follow}
use Rattle.elaboration.proofs.Declared.{among_with, no_fewer, count_kept, among_kept, parts_keep, statement_keeps, otherwise_keeps, items_keep}
use Rattle.typed_expressions.proofs.Valid.{IsSound, both_none, some_is_not_none, name_typed, expression_is_number, expression_is_test}

-- statements over that many variables
abbrev pub AllSorted : ℕ → List Command → Type 0
AllSorted vars xs = AreSorted vars (of_list xs)

valid_append : (vars : ℕ) (xs ys : List Command) → AllSorted vars xs → AllSorted vars ys → AllSorted vars (xs ++ ys)
valid_append vars [] ys first second = second
valid_append vars (x ∷ xs) ys first second = (first.0, valid_append vars xs ys first.1 second)

valid_followed : (vars : ℕ) (guarded : Bool) (xs ys : List Command) → AllSorted vars xs → AllSorted vars ys → AllSorted vars (followed guarded xs ys)
valid_followed vars guarded xs ys first second =
    follow (AllSorted vars) guarded xs ys (valid_append vars xs ys first second)
    (λ test one other is. let sorted = subst (AllSorted vars) is first in ((sorted.0.0, sorted.0.1, second), tt))

-- ── Simple statements ──

assigned_number : (vars x : ℕ) (assignment : Assignment) (e : syntax.Expression) → x < vars → IsNumber vars e → IsNumber vars (assigned x assignment e)
assigned_number vars x Assignment.Assign e below is = is
assigned_number vars x Assignment.Add e below is = (below, is)
assigned_number vars x Assignment.Subtract e below is = (below, is)
assigned_number vars x Assignment.Multiply e below is = (below, is)

stepped_number : (vars x : ℕ) (step : Step) → x < vars → IsNumber vars (stepped x step)
stepped_number vars x Increment below = (below, tt)
stepped_number vars x Decrement below = (below, tt)

action_number : (vars : ℕ) (scope : Scope) → IsSound scope → length scope.declared ≤ vars → (x : ℕ) (action : Action)
    → x < vars → action_faults scope action ≡ [] → IsNumber vars (action_meaning scope x action)
action_number vars scope sound room x (assigns assignment e) below clean =
    assigned_number vars x assignment (expression_typed scope e).meaning below (expression_is_number vars scope sound room e clean)
action_number vars scope sound room x (steps step) below clean = stepped_number vars x step below

simple_valid : (vars : ℕ) (scope : Scope) → IsSound scope → length scope.declared ≤ vars → (s : Simple)
    → simple_faults scope s ≡ [] → AllSorted vars (simple_meaning scope s ∷ [])
simple_valid vars scope sound room (acts x action) clean =
    let parts = both_none (unknown_name scope x.at x.bytes) (action_faults scope action) clean in
    let named = name_typed vars scope x.at x.bytes sound room parts.0 in
    ((named.1, action_number vars scope sound room (place_of scope.declared x.bytes) action named.1 parts.1), tt)
simple_valid vars scope sound room (steps_before at step x) clean =
    let named = name_typed vars scope x.at x.bytes sound room clean in
    ((named.1, stepped_number vars (place_of scope.declared x.bytes) step named.1), tt)

optional_simple_valid : (vars : ℕ) (scope : Scope) → IsSound scope → length scope.declared ≤ vars → (s : Option Simple)
    → (optional_simple_walked scope s).faults ≡ [] → AllSorted vars (optional_simple_walked scope s).body
optional_simple_valid vars scope sound room (Some s) clean = simple_valid vars scope sound room s clean
optional_simple_valid vars scope sound room None clean = tt

-- ── Calls ──

arguments_valid : (vars : ℕ) (scope : Scope) → IsSound scope → length scope.declared ≤ vars → (arguments : List Expression)
    → arguments_faults scope arguments ≡ [] → AllNumbers vars (arguments_meaning scope arguments)
arguments_valid vars scope sound room [] clean = tt
arguments_valid vars scope sound room (e ∷ more) clean =
    let faultless = both_none (number_faults scope e) (arguments_faults scope more) clean in
    (expression_is_number vars scope sound room e faultless.0, arguments_valid vars scope sound room more faultless.1)

call_valid : (c : Context) (vars : ℕ) (scope : Scope) → IsSound scope → length scope.declared ≤ vars → (target : Option ℕ) (call : Call)
    → (call_walked c scope target call).faults ≡ [] → AllSorted vars (call_walked c scope target call).body
call_valid c vars scope sound room target call clean =
    let own = signature_faults (signature_of c.functions call.function.bytes) call.function.at (length call.arguments) (is_wanted target) in
    let faultless = both_none own (arguments_faults scope call.arguments) clean in
    (arguments_valid vars scope sound room call.arguments faultless.1, tt)

-- ── Declarations ──

-- a name that is declared without a fault is a variable
pub declared_known : (scope : Scope) (x : Name) (initialiser : Option Value)
    → name_faults scope x initialiser ≡ [] → is_among (with_variable scope.others scope.declared x.bytes) x.bytes ≡ true
declared_known scope x initialiser clean = by_visible (is_among scope.visible x.bytes) clean
  where
    by_room : (room : Bool) → (if room then [] else fault Variables x.at ∷ []) ≡ []
        → is_among (if room then scope.declared ++ x.bytes ∷ [] else scope.declared) x.bytes ≡ true
    by_room true h = among_last scope.declared x.bytes
    by_room false h = absurd (some_is_not_none _ [] h)

    by_known : (known : Bool) → is_among scope.declared x.bytes ≡ known
        → (if known then again_faults x.at initialiser else if nat_lt (scope.others + length scope.declared) most_variables then [] else fault Variables x.at ∷ []) ≡ []
        → is_among (if known then scope.declared else if nat_lt (scope.others + length scope.declared) most_variables then scope.declared ++ x.bytes ∷ [] else scope.declared) x.bytes ≡ true
    by_known true e h = e
    by_known false e h = by_room (nat_lt (scope.others + length scope.declared) most_variables) h

    by_visible : (seen : Bool)
        → (if seen then fault Twice x.at ∷ [] else if is_among scope.declared x.bytes then again_faults x.at initialiser
        else if nat_lt (scope.others + length scope.declared) most_variables then [] else fault Variables x.at ∷ []) ≡ []
        → is_among (with_variable scope.others scope.declared x.bytes) x.bytes ≡ true
    by_visible true h = absurd (some_is_not_none _ [] h)
    by_visible false h = by_known (is_among scope.declared x.bytes) refl h

pub sound_behind : (scope : Scope) (x : List ℕ) (bare : Bool) → IsSound scope → is_among (with_variable scope.others scope.declared x) x ≡ true
    → IsSound (declare scope x bare)
sound_behind scope x bare sound known y seen =
    by_case (among_cases scope.visible x y seen)
  where
    by_case : (is_among scope.visible y ≡ true) ⊎ (x ≡ y) → is_among (with_variable scope.others scope.declared x) y ≡ true
    by_case (inl before) = among_with y scope.others scope.declared x (sound y before)
    by_case (inr same) = subst (λ z. is_among (with_variable scope.others scope.declared x) z ≡ true) same known

initialiser_valid : (c : Context) (vars : ℕ) (scope behind : Scope) → IsSound scope → length scope.declared ≤ vars → (x : Name) (value : Option Value)
    → place_of behind.declared x.bytes < vars → (initialiser_walked c scope behind x value).faults ≡ []
    → AllSorted vars (initialiser_walked c scope behind x value).body
initialiser_valid c vars scope behind sound room x (Some (evaluates e)) below clean = ((below, expression_is_number vars scope sound room e clean), tt)
initialiser_valid c vars scope behind sound room x (Some (answers call)) below clean =
    call_valid c vars scope sound room (Some (place_of behind.declared x.bytes)) call clean
initialiser_valid c vars scope behind sound room x None below clean = tt

-- a declared name, where the names behind it are at most so many
part_valid : (c : Context) (vars : ℕ) (scope : Scope) → IsSound scope → (part : Part) → length (part_walked c scope part).scope.declared ≤ vars
    → (part_walked c scope part).faults ≡ [] → AllSorted vars (part_walked c scope part).body × IsSound (part_walked c scope part).scope
part_valid c vars scope sound part later clean =
    let x = part.declared in
    let behind = declare scope x.bytes (is_bare part.initialiser) in
    let faultless = both_none (name_faults scope x part.initialiser) (initialiser_walked c scope behind x part.initialiser).faults clean in
    let known = declared_known scope x part.initialiser faultless.0 in
    let grown = no_fewer (length scope.declared) scope.others scope.declared x.bytes (omega arith) in
    let below = place_below behind.declared x.bytes known in (
      initialiser_valid c vars scope behind sound (omega (arith, grown, later)) x part.initialiser (omega (arith, below, later)) faultless.1,
      sound_behind scope x.bytes (is_bare part.initialiser) sound known,
    )

parts_valid : (c : Context) (vars : ℕ) (scope : Scope) → IsSound scope → (parts : List Part) → length (parts_walked c scope parts).scope.declared ≤ vars
    → (parts_walked c scope parts).faults ≡ [] → AllSorted vars (parts_walked c scope parts).body × IsSound (parts_walked c scope parts).scope
parts_valid c vars scope sound [] later clean = (tt, sound)
parts_valid c vars scope sound (part ∷ more) later clean =
    let behind = (part_walked c scope part).scope in
    let faultless = both_none (part_walked c scope part).faults (parts_walked c behind more).faults clean in
    let grown = parts_keep c _ (count_kept (length behind.declared)) behind more (omega arith) in
    let first = part_valid c vars scope sound part (omega (arith, grown, later)) faultless.0 in
    let rest = parts_valid c vars behind first.1 more later faultless.1 in
    (valid_append vars (part_walked c scope part).body (parts_walked c behind more).body first.0 rest.0, rest.1)

start_valid : (c : Context) (vars : ℕ) (scope : Scope) → IsSound scope → (start : Start) → length (start_walked c scope start).scope.declared ≤ vars
    → (start_walked c scope start).faults ≡ [] → AllSorted vars (start_walked c scope start).body × IsSound (start_walked c scope start).scope
start_valid c vars scope sound starts_with_nothing later clean = (tt, sound)
start_valid c vars scope sound (starts_with s) later clean = (simple_valid vars scope sound later s clean, sound)
start_valid c vars scope sound (declares d) later clean = parts_valid c vars scope sound (d.part ∷ d.more) later clean

optional_valid : (vars : ℕ) (scope : Scope) → IsSound scope → length scope.declared ≤ vars → (test : Option Expression)
    → optional_faults scope test ≡ [] → IsTest vars (optional_test scope test)
optional_valid vars scope sound room (Some e) clean = expression_is_test vars scope sound room e clean
optional_valid vars scope sound room None clean = tt

-- ── Returns ──

return_valid : (body : Body) (last : Bool) (vars : ℕ) (scope : Scope) → IsSound scope → length scope.declared ≤ vars → (at : ℕ) (value : Option Expression)
    → return_faults body last scope at value ≡ [] → ValueIsNumber vars (returned_value body scope value)
return_valid Main last vars scope sound room at value clean = tt
return_valid Valued last vars scope sound room at (Some e) clean =
    expression_is_number vars scope sound room e (both_none (misplaced last at) (number_faults scope e) clean).1
return_valid Valued last vars scope sound room at None clean = tt
return_valid Valueless last vars scope sound room at (Some e) clean = absurd (some_is_not_none _ _ clean)
return_valid Valueless last vars scope sound room at None clean = tt

-- ── Statements ──

-- behind a statement what may be used is still a variable
pub statement_sound : (c : Context) (scope : Scope) (s : Statement) → IsSound scope → IsSound (statement_walked c scope s).scope
statement_sound c scope s sound x seen =
    statement_keeps c _ (among_kept x) scope s (sound x (subst (λ names. is_among names x ≡ true) (statement_visible c scope s) seen))

statement_grows : (c : Context) (scope : Scope) (s : Statement) → length scope.declared ≤ length (statement_walked c scope s).scope.declared
statement_grows c scope s = statement_keeps c _ (count_kept (length scope.declared)) scope s (omega arith)

mutual
  pub statement_valid : (c : Context) (vars : ℕ) (scope : Scope) → IsSound scope → (s : Statement) → length (statement_walked c scope s).scope.declared ≤ vars
      → (statement_walked c scope s).faults ≡ [] → AllSorted vars (statement_walked c scope s).body
  statement_valid c vars scope sound (statement_at at (simple s)) later clean = simple_valid vars scope sound later s clean
  statement_valid c vars scope sound (statement_at at (calls call)) later clean = call_valid c vars scope sound later None call clean
  statement_valid c vars scope sound (statement_at at (gives x call)) later clean =
      let target = Some (place_of scope.declared x.bytes) in
      let faultless = both_none (unknown_name scope x.at x.bytes) (call_walked c scope target call).faults clean in
      call_valid c vars scope sound later target call faultless.1
  statement_valid c vars scope sound (statement_at at skip) later clean = (tt, tt)
  statement_valid c vars scope sound (statement_at at (braces all)) later clean = items_valid (deeper c) vars scope sound all later clean
  statement_valid c vars scope sound (statement_at at (conditional test part other)) later clean =
      let d = deeper c in
      let middle = (statement_walked d scope part).scope in
      let outer = both_none (expression_faults scope test) ((statement_walked d scope part).faults ++ (otherwise_walked d middle other).faults) clean in
      let inner = both_none (statement_walked d scope part).faults (otherwise_walked d middle other).faults outer.1 in
      let first = statement_grows d scope part in
      let second = otherwise_keeps d _ (count_kept (length middle.declared)) middle other (omega arith) in (
        (
          expression_is_test vars scope sound (omega (arith, first, second, later)) test outer.0,
          statement_valid d vars scope sound part (omega (arith, second, later)) inner.0,
          otherwise_valid d vars middle (statement_sound d scope part sound) other later inner.1,
        ),
        tt,
      )
  statement_valid c vars scope sound (statement_at at (while_loop test body)) later clean =
      let d = looping c in
      let faultless = both_none (expression_faults scope test) (statement_walked d scope body).faults clean in
      let grown = statement_grows d scope body in
      ((expression_is_test vars scope sound (omega (arith, grown, later)) test faultless.0, statement_valid d vars scope sound body later faultless.1, tt), tt)
  statement_valid c vars scope sound (statement_at at (do_loop body end test)) later clean =
      let d = looping c in
      let middle = (statement_walked d scope body).scope in
      let faultless = both_none (statement_walked d scope body).faults (expression_faults middle test) clean in (
        (
          statement_valid d vars scope sound body later faultless.0,
          expression_is_test vars middle (statement_sound d scope body sound) later test faultless.1,
        ),
        tt,
      )
  statement_valid c vars scope sound (statement_at at (for_loop start test step body)) later clean =
      let d = looping c in
      let before = start_walked (deeper c) scope start in
      let inside = before.scope in
      let outer = both_none before.faults (optional_faults inside test ++ ((optional_simple_walked inside step).faults ++ (statement_walked d inside body).faults)) clean in
      let inner = both_none (optional_faults inside test) ((optional_simple_walked inside step).faults ++ (statement_walked d inside body).faults) outer.1 in
      let last = both_none (optional_simple_walked inside step).faults (statement_walked d inside body).faults inner.1 in
      let grown = statement_grows d inside body in
      let room : length inside.declared ≤ vars = omega (arith, grown, later) in
      let first = start_valid (deeper c) vars scope sound start room outer.0 in
      valid_append vars before.body (unit.while_loop _ _ _ ∷ []) first.0 (
        (
          optional_valid vars inside first.1 room test inner.0,
          statement_valid d vars inside first.1 body later last.1,
          optional_simple_valid vars inside first.1 room step last.0,
        ),
        tt,
      )
  statement_valid c vars scope sound (statement_at at (return value)) later clean = (return_valid c.body c.last vars scope sound later at value clean, tt)
  statement_valid c vars scope sound (statement_at at break) later clean = (tt, tt)
  statement_valid c vars scope sound (statement_at at continue) later clean = (tt, tt)

  otherwise_valid : (c : Context) (vars : ℕ) (scope : Scope) → IsSound scope → (other : Otherwise) → length (otherwise_walked c scope other).scope.declared ≤ vars
      → (otherwise_walked c scope other).faults ≡ [] → AllSorted vars (otherwise_walked c scope other).body
  otherwise_valid c vars scope sound without later clean = tt
  otherwise_valid c vars scope sound (otherwise s) later clean = statement_valid (deeper c) vars scope sound s later clean

  pub items_valid : (c : Context) (vars : ℕ) (scope : Scope) → IsSound scope → (all : Items) → length (items_walked c scope all).scope.declared ≤ vars
      → (items_walked c scope all).faults ≡ [] → AllSorted vars (items_walked c scope all).body
  items_valid c vars scope sound none later faultless = tt
  items_valid c vars scope sound (declaration d more) later faultless =
      let behind = (declaration_walked c scope d).scope in
      let parts = both_none (declaration_walked c scope d).faults (items_walked c behind more).faults faultless in
      let grown = items_keep c _ (count_kept (length behind.declared)) behind more (omega arith) in
      let first = parts_valid c vars scope sound (d.part ∷ d.more) (omega (arith, grown, later)) parts.0 in
      valid_append vars (declaration_walked c scope d).body (items_walked c behind more).body first.0 (items_valid c vars behind first.1 more later parts.1)
  items_valid c vars scope sound (statement s more) later faultless =
      let inner = around_statement c s more in
      let w = statement_walked inner scope s in
      let rest = items_walked (around_rest c s) w.scope more in
      let parts = both_none w.faults rest.faults faultless in
      let grown = items_keep (around_rest c s) _ (count_kept (length w.scope.declared)) w.scope more (omega arith) in
      valid_followed vars (guards c s) w.body rest.body (statement_valid inner vars scope sound s (omega (arith, grown, later)) parts.0)
      (items_valid (around_rest c s) vars w.scope (statement_sound inner scope s sound) more later parts.1)
