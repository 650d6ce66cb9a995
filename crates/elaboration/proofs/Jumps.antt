-- Without faults, each `break` and `continue` stands inside the body of a loop, and calls are of functions that are known, with the value that is asked.
use Rattle.std.proofs.Common.{◌≡◌, ℕ, ◌<◌, Bool, true, false, ◌&&◌, ◌||◌, nat_eq, IsTrue, List, [], ◌∷◌, ◌++◌, Option, None, Some, length, refl, sym, ap, subst, if◌then◌else◌}
use Rattle.std.proofs.lemmas.Bool.{false≢true}
use Rattle.std.proofs.lemmas.Bool.Decides.{Decides-eqb}
use Rattle.call_meaning.specs.Units.{Command, of_list, Table}
use Rattle.call_meaning.specs.Units as unit
use Rattle.call_meaning.specs.Validity.{AllStand, MayAsk}
use Rattle.concrete_syntax.specs.Trees.{Expression, Name as Named, Call, Simple, acts, steps_before, Value, evaluates, answers, Part, Start, starts_with_nothing, starts_with, declares, Statement, statement_at, simple, calls, gives, skip, braces, conditional, while_loop, do_loop, for_loop, return, break, continue, Otherwise, without, otherwise, Items, none, declaration, statement}
use Rattle.typed_expressions.specs.declared.fault.Rule.TheVariants.{Arguments}
use Rattle.elaboration.specs.declared.functions.Signature.{Signature}
use Rattle.elaboration.specs.declared.context.Body.{Body}
use Rattle.elaboration.specs.declared.context.Body.TheVariants.{Main, Valued, Valueless}
use Rattle.elaboration.specs.Contexts.{Context, deeper, looping}
use Rattle.elaboration.specs.Guards.{is_ended, is_function, guards, around_statement, around_rest}
use Rattle.typed_expressions.specs.Faults.{fault}
use Rattle.elaboration.specs.Functions.{Functions, signature_of}
use Rattle.typed_expressions.specs.Scopes.{Scope, Name, place_of}
use Rattle.typed_expressions.specs.Expressions.{unknown_name, expression_faults}
use Rattle.elaboration.specs.Statements.{simple_meaning, optional_simple_walked, name_faults, initialiser_walked, part_walked, parts_walked, declaration_walked, start_walked, optional_faults, outside_faults, arguments_faults, signature_faults, value_faults, is_wanted, call_walked, return_faults, followed, statement_walked, otherwise_walked, items_walked}
use Rattle.elaboration.proofs.Following.{follow}
use Rattle.typed_expressions.proofs.Valid.{both_none, some_is_not_none}

-- the table has the functions that are known, below this number
pub record HasFunction (table : Table) (k f : ℕ) (s : Signature) : Type 0 where
  pub below : f < k
  pub params : (table f).params ≡ s.params
  pub valued : (table f).valued ≡ s.valued

abbrev pub HasFunctions : Table → ℕ → Functions → Type 0
HasFunctions table k functions = (x : Name) (s : Signature) → signature_of functions x ≡ Some s → HasFunction table k (place_of functions.names x) s

value_wanted : (target : Option ℕ) (valued : Bool) (at : ℕ) → value_faults (is_wanted target) valued at ≡ [] → MayAsk target valued
value_wanted (Some x) true at clean = refl
value_wanted (Some x) false at clean = absurd (some_is_not_none _ [] clean)
value_wanted None valued at clean = tt

-- what a call without a fault at its function's name tells
pub call_known : (functions : Functions) (x : Named) (count : ℕ) (target : Option ℕ)
    → signature_faults (signature_of functions x.bytes) x.at count (is_wanted target) ≡ []
    → (s : Signature) × (signature_of functions x.bytes ≡ Some s) × MayAsk target s.valued × (count ≡ s.params)
call_known functions x count target clean = by_signature (signature_of functions x.bytes) refl clean
  where
    by_count : (s : Signature) (same : Bool) → nat_eq count s.params ≡ same → (if same then [] else fault Arguments x.at ∷ []) ≡ [] → count ≡ s.params
    by_count s true is h = (Decides-eqb count s.params).0 is
    by_count s false is h = absurd (some_is_not_none _ [] h)

    by_signature : (found : Option Signature) → signature_of functions x.bytes ≡ found → signature_faults found x.at count (is_wanted target) ≡ []
        → (s : Signature) × (signature_of functions x.bytes ≡ Some s) × MayAsk target s.valued × (count ≡ s.params)
    by_signature None is h = absurd (some_is_not_none _ [] h)
    by_signature (Some s) is h =
        let faultless = both_none (value_faults (is_wanted target) s.valued x.at) (if nat_eq count s.params then [] else fault Arguments x.at ∷ []) h in
        (s, is, value_wanted target s.valued x.at faultless.0, by_count s (nat_eq count s.params) refl faultless.1)

-- where no `return` may stand, the statements are of a function, and something of it follows
abbrev pub Allows : Bool → Context → Type 0
Allows may c = may ≡ false → (c.last ≡ false) × (is_function c.body ≡ true)

before_more : (body : Body) (scope : Scope) (at : ℕ) (value : Option Expression) → is_function body ≡ true → return_faults body false scope at value ≡ [] → ⊥
before_more Main scope at value own clean = false≢true own
before_more Valued scope at (Some e) own clean = some_is_not_none _ _ clean
before_more Valued scope at None own clean = some_is_not_none _ _ clean
before_more Valueless scope at (Some e) own clean = some_is_not_none _ _ clean
before_more Valueless scope at None own clean = some_is_not_none _ _ clean

-- in the function of the number `k`, where a `return` may stand anywhere, or nowhere
module _ (table : Table) (k : ℕ) (may : Bool) where
  abbrev pub AllInside : Bool → List Command → Type 0
  AllInside in_loop xs = AllStand table k may in_loop (of_list xs)

  pub inside_append : (in_loop : Bool) (xs ys : List Command) → AllInside in_loop xs → AllInside in_loop ys → AllInside in_loop (xs ++ ys)
  inside_append in_loop [] ys first second = second
  inside_append in_loop (x ∷ xs) ys first second = (first.0, inside_append in_loop xs ys first.1 second)

  inside_followed : (in_loop guarded : Bool) (xs ys : List Command) → AllInside in_loop xs → AllInside in_loop ys → AllInside in_loop (followed guarded xs ys)
  inside_followed in_loop guarded xs ys first second =
      follow (AllInside in_loop) guarded xs ys (inside_append in_loop xs ys first second)
      (λ test one other is. let inside = subst (AllInside in_loop) is first in ((inside.0.0, second), tt))

  -- what assigns doesn't jump
  simple_inside : (in_loop : Bool) (scope : Scope) (s : Simple) → AllInside in_loop (simple_meaning scope s ∷ [])
  simple_inside in_loop scope (acts x action) = (tt, tt)
  simple_inside in_loop scope (steps_before at step x) = (tt, tt)

  pub optional_simple_inside : (in_loop : Bool) (scope : Scope) (s : Option Simple) → AllInside in_loop (optional_simple_walked scope s).body
  optional_simple_inside in_loop scope (Some s) = simple_inside in_loop scope s
  optional_simple_inside in_loop scope None = tt

  jump_inside : (in_loop : Bool) (at : ℕ) → outside_faults in_loop at ≡ [] → IsTrue in_loop
  jump_inside true at clean = refl
  jump_inside false at clean = absurd (some_is_not_none _ [] clean)

  return_inside : (c : Context) → Allows may c → (scope : Scope) (at : ℕ) (value : Option Expression) → return_faults c.body c.last scope at value ≡ []
      → IsTrue may
  return_inside c allowed scope at value clean = by_may may refl
    where
      by_may : (b : Bool) → may ≡ b → IsTrue may
      by_may true e = e
      by_may false e =
          let own = allowed e in
          absurd (before_more c.body scope at value own.1 (subst (λ last. return_faults c.body last scope at value ≡ []) own.0 clean))

  call_inside : (c : Context) → HasFunctions table k c.functions → (scope : Scope) (target : Option ℕ) (call : Call)
      → (call_walked c scope target call).faults ≡ [] → AllInside c.in_loop (call_walked c scope target call).body
  call_inside c has scope target call clean =
      let own = signature_faults (signature_of c.functions call.function.bytes) call.function.at (length call.arguments) (is_wanted target) in
      let faultless = both_none own (arguments_faults scope call.arguments) clean in
      let known = call_known c.functions call.function (length call.arguments) target faultless.0 in
      let is = has call.function.bytes known.0 known.1 in
      ((is.below, subst (MayAsk target) (sym is.valued) known.2), tt)

  initialiser_inside : (c : Context) → HasFunctions table k c.functions → (scope behind : Scope) (x : Named) (value : Option Value)
      → (initialiser_walked c scope behind x value).faults ≡ [] → AllInside c.in_loop (initialiser_walked c scope behind x value).body
  initialiser_inside c has scope behind x (Some (evaluates e)) clean = (tt, tt)
  initialiser_inside c has scope behind x (Some (answers call)) clean = call_inside c has scope (Some (place_of behind.declared x.bytes)) call clean
  initialiser_inside c has scope behind x None clean = tt

  pub parts_inside : (c : Context) → HasFunctions table k c.functions → (scope : Scope) (parts : List Part) → (parts_walked c scope parts).faults ≡ []
      → AllInside c.in_loop (parts_walked c scope parts).body
  parts_inside c has scope [] clean = tt
  parts_inside c has scope (part ∷ more) clean =
      let w = part_walked c scope part in
      let faultless = both_none w.faults (parts_walked c w.scope more).faults clean in
      let own = both_none (name_faults scope part.declared part.initialiser) (initialiser_walked c scope w.scope part.declared part.initialiser).faults faultless.0 in
      inside_append c.in_loop w.body (parts_walked c w.scope more).body
      (initialiser_inside c has scope w.scope part.declared part.initialiser own.1) (parts_inside c has w.scope more faultless.1)

  pub start_inside : (c : Context) → HasFunctions table k c.functions → (scope : Scope) (start : Start) → (start_walked c scope start).faults ≡ []
      → AllInside c.in_loop (start_walked c scope start).body
  start_inside c has scope starts_with_nothing clean = tt
  start_inside c has scope (starts_with s) clean = simple_inside c.in_loop scope s
  start_inside c has scope (declares d) clean = parts_inside c has scope (d.part ∷ d.more) clean

  mutual
    pub statement_inside : (c : Context) → Allows may c → HasFunctions table k c.functions → (scope : Scope) (s : Statement) → (statement_walked c scope s).faults ≡ []
        → AllInside c.in_loop (statement_walked c scope s).body
    statement_inside c allowed has scope (statement_at at (simple s)) clean = simple_inside c.in_loop scope s
    statement_inside c allowed has scope (statement_at at (calls call)) clean = call_inside c has scope None call clean
    statement_inside c allowed has scope (statement_at at (gives x call)) clean =
        let target = Some (place_of scope.declared x.bytes) in
        let faultless = both_none (unknown_name scope x.at x.bytes) (call_walked c scope target call).faults clean in
        call_inside c has scope target call faultless.1
    statement_inside c allowed has scope (statement_at at skip) clean = (tt, tt)
    statement_inside c allowed has scope (statement_at at (braces all)) clean = items_inside (deeper c) allowed has scope all clean
    statement_inside c allowed has scope (statement_at at (conditional test part other)) clean =
        let d = deeper c in
        let middle = (statement_walked d scope part).scope in
        let outer = both_none (expression_faults scope test) ((statement_walked d scope part).faults ++ (otherwise_walked d middle other).faults) clean in
        let inner = both_none (statement_walked d scope part).faults (otherwise_walked d middle other).faults outer.1 in
        ((statement_inside d allowed has scope part inner.0, otherwise_inside d allowed has middle other inner.1), tt)
    statement_inside c allowed has scope (statement_at at (while_loop test body)) clean =
        let faultless = both_none (expression_faults scope test) (statement_walked (looping c) scope body).faults clean in
        ((statement_inside (looping c) (λ e. (refl, (allowed e).1)) has scope body faultless.1, tt), tt)
    statement_inside c allowed has scope (statement_at at (do_loop body end test)) clean =
        let middle = (statement_walked (looping c) scope body).scope in
        let faultless = both_none (statement_walked (looping c) scope body).faults (expression_faults middle test) clean in
        (statement_inside (looping c) (λ e. (refl, (allowed e).1)) has scope body faultless.0, tt)
    statement_inside c allowed has scope (statement_at at (for_loop start test step body)) clean =
        let before = start_walked (deeper c) scope start in
        let inside = before.scope in
        let last = (optional_simple_walked inside step).faults ++ (statement_walked (looping c) inside body).faults in
        let outer = both_none before.faults (optional_faults inside test ++ last) clean in
        let inner = both_none (optional_faults inside test) last outer.1 in
        let faultless = both_none (optional_simple_walked inside step).faults (statement_walked (looping c) inside body).faults inner.1 in
        inside_append c.in_loop before.body (unit.while_loop _ _ _ ∷ []) (start_inside (deeper c) has scope start outer.0)
        ((statement_inside (looping c) (λ e. (refl, (allowed e).1)) has inside body faultless.1, optional_simple_inside c.in_loop inside step), tt)
    statement_inside c allowed has scope (statement_at at (return value)) clean = (return_inside c allowed scope at value clean, tt)
    statement_inside c allowed has scope (statement_at at break) clean = (jump_inside c.in_loop at clean, tt)
    statement_inside c allowed has scope (statement_at at continue) clean = (jump_inside c.in_loop at clean, tt)

    otherwise_inside : (c : Context) → Allows may c → HasFunctions table k c.functions → (scope : Scope) (other : Otherwise) → (otherwise_walked c scope other).faults ≡ []
        → AllInside c.in_loop (otherwise_walked c scope other).body
    otherwise_inside c allowed has scope without clean = tt
    otherwise_inside c allowed has scope (otherwise s) clean = statement_inside (deeper c) allowed has scope s clean

    pub items_inside : (c : Context) → Allows may c → HasFunctions table k c.functions → (scope : Scope) (all : Items) → (items_walked c scope all).faults ≡ []
        → AllInside c.in_loop (items_walked c scope all).body
    items_inside c allowed has scope none clean = tt
    items_inside c allowed has scope (declaration d more) clean =
        let behind = (declaration_walked c scope d).scope in
        let parts = both_none (declaration_walked c scope d).faults (items_walked c behind more).faults clean in
        inside_append c.in_loop (declaration_walked c scope d).body (items_walked c behind more).body
        (parts_inside c has scope (d.part ∷ d.more) parts.0) (items_inside c allowed has behind more parts.1)
    items_inside c allowed has scope (statement s more) clean =
        let around = around_statement c s more in
        let w = statement_walked around scope s in
        let rest = items_walked (around_rest c s) w.scope more in
        let parts = both_none w.faults rest.faults clean in
        inside_followed c.in_loop (guards c s) w.body rest.body
        (statement_inside around (λ e. (ap (λ last. last && (is_ended more || guards c s)) (allowed e).0, (allowed e).1)) has scope s parts.0)
        (items_inside (around_rest c s) allowed has w.scope more parts.1)
