-- No `return` in `main` has a value.
use Rattle.std.proofs.Common.{◌≡◌, Bool, List, [], ◌∷◌, ◌++◌, Option, None, Some, sym, subst}
use Rattle.call_meaning.specs.Sorts.{IsNoValue, HaveNoValue}
use Rattle.call_meaning.specs.Units.{Command, of_list}
use Rattle.call_meaning.specs.Units as unit
use Rattle.concrete_syntax.specs.Trees.{Name as Named, Simple, acts, steps_before, Value, evaluates, answers, Part, Start, starts_with_nothing, starts_with, declares, Statement, statement_at, simple, calls, gives, skip, braces, conditional, while_loop, do_loop, for_loop, return, break, continue, Otherwise, without, otherwise, Items, none, declaration, statement}
use Rattle.elaboration.specs.declared.context.Body.TheVariants.{Main}
use Rattle.elaboration.specs.Contexts.{Context, deeper, looping}
use Rattle.elaboration.specs.Guards.{guards, around_statement, around_rest}
use Rattle.typed_expressions.specs.Scopes.{Scope}
use Rattle.elaboration.specs.Statements.{simple_meaning, optional_simple_walked, initialiser_walked, part_walked, parts_walked, declaration_walked, start_walked, returned_value, followed, statement_walked, otherwise_walked, items_walked}
use Rattle.elaboration.proofs.Following.{follow}

abbrev NoneValued : List Command → Type 0
NoneValued xs = HaveNoValue (of_list xs)

valueless_append : (xs ys : List Command) → NoneValued xs → NoneValued ys → NoneValued (xs ++ ys)
valueless_append [] ys first second = second
valueless_append (x ∷ xs) ys first second = (first.0, valueless_append xs ys first.1 second)

valueless_followed : (guarded : Bool) (xs ys : List Command) → NoneValued xs → NoneValued ys → NoneValued (followed guarded xs ys)
valueless_followed guarded xs ys first second =
    follow NoneValued guarded xs ys (valueless_append xs ys first second) (λ test one other is. (((subst NoneValued is first).0.0, second), tt))

simple_valueless : (scope : Scope) (s : Simple) → NoneValued (simple_meaning scope s ∷ [])
simple_valueless scope (acts x action) = (tt, tt)
simple_valueless scope (steps_before at step x) = (tt, tt)

optional_valueless : (scope : Scope) (s : Option Simple) → NoneValued (optional_simple_walked scope s).body
optional_valueless scope (Some s) = simple_valueless scope s
optional_valueless scope None = tt

initialiser_valueless : (c : Context) (scope behind : Scope) (x : Named) (value : Option Value) → NoneValued (initialiser_walked c scope behind x value).body
initialiser_valueless c scope behind x (Some (evaluates e)) = (tt, tt)
initialiser_valueless c scope behind x (Some (answers call)) = (tt, tt)
initialiser_valueless c scope behind x None = tt

parts_valueless : (c : Context) (scope : Scope) (parts : List Part) → NoneValued (parts_walked c scope parts).body
parts_valueless c scope [] = tt
parts_valueless c scope (part ∷ more) =
    let w = part_walked c scope part in
    valueless_append w.body (parts_walked c w.scope more).body (initialiser_valueless c scope w.scope part.declared part.initialiser)
    (parts_valueless c w.scope more)

start_valueless : (c : Context) (scope : Scope) (start : Start) → NoneValued (start_walked c scope start).body
start_valueless c scope starts_with_nothing = tt
start_valueless c scope (starts_with s) = simple_valueless scope s
start_valueless c scope (declares d) = parts_valueless c scope (d.part ∷ d.more)

mutual
  statement_valueless : (c : Context) → c.body ≡ Main → (scope : Scope) (s : Statement) → NoneValued (statement_walked c scope s).body
  statement_valueless c own scope (statement_at at (simple s)) = simple_valueless scope s
  statement_valueless c own scope (statement_at at (calls call)) = (tt, tt)
  statement_valueless c own scope (statement_at at (gives x call)) = (tt, tt)
  statement_valueless c own scope (statement_at at skip) = (tt, tt)
  statement_valueless c own scope (statement_at at (braces all)) = items_valueless (deeper c) own scope all
  statement_valueless c own scope (statement_at at (conditional test part other)) =
      let d = deeper c in
      ((statement_valueless d own scope part, otherwise_valueless d own (statement_walked d scope part).scope other), tt)
  statement_valueless c own scope (statement_at at (while_loop test body)) = ((statement_valueless (looping c) own scope body, tt), tt)
  statement_valueless c own scope (statement_at at (do_loop body end test)) = (statement_valueless (looping c) own scope body, tt)
  statement_valueless c own scope (statement_at at (for_loop start test step body)) =
      let before = start_walked (deeper c) scope start in
      let inside = before.scope in
      valueless_append before.body (unit.while_loop _ _ _ ∷ []) (start_valueless (deeper c) scope start)
      ((statement_valueless (looping c) own inside body, optional_valueless inside step), tt)
  statement_valueless c own scope (statement_at at (return value)) = (subst (λ b. IsNoValue (returned_value b scope value)) (sym own) tt, tt)
  statement_valueless c own scope (statement_at at break) = (tt, tt)
  statement_valueless c own scope (statement_at at continue) = (tt, tt)

  otherwise_valueless : (c : Context) → c.body ≡ Main → (scope : Scope) (other : Otherwise) → NoneValued (otherwise_walked c scope other).body
  otherwise_valueless c own scope without = tt
  otherwise_valueless c own scope (otherwise s) = statement_valueless (deeper c) own scope s

  pub items_valueless : (c : Context) → c.body ≡ Main → (scope : Scope) (all : Items) → NoneValued (items_walked c scope all).body
  items_valueless c own scope none = tt
  items_valueless c own scope (declaration d more) =
      let w = declaration_walked c scope d in
      valueless_append w.body (items_walked c w.scope more).body (parts_valueless c scope (d.part ∷ d.more)) (items_valueless c own w.scope more)
  items_valueless c own scope (statement s more) =
      let inner = around_statement c s more in
      let w = statement_walked inner scope s in
      let rest = items_walked (around_rest c s) w.scope more in
      valueless_followed (guards c s) w.body rest.body (statement_valueless inner own scope s) (items_valueless (around_rest c s) own w.scope more)
