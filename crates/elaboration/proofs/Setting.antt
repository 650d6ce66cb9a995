-- Without faults, statements read only variables that are set: what may be used is a parameter, a variable declared without initialiser, or one that was
-- assigned by the initialiser of its declaration.
use Rattle.std.proofs.Common.{◌≡◌, ℕ, ◌+◌, ◌<◌, ◌≤◌, nat_lt, nat_eq, Bool, true, false, ◌||◌, ◌&&◌, IsTrue, List, [], ◌∷◌, ◌++◌, Option, None, Some, length, slice_index_or, slice_set, ◌⊎◌, inl, inr, refl, sym, ap, ◌∙◌, subst, arith, if◌then◌else◌}
use Rattle.std.proofs.lemmas.Bool.{false≢true, ltb-true, lt-ltb}
use Rattle.std.proofs.lemmas.Bool.Decides.{Decides-eqb}
use Rattle.std.proofs.lemmas.List.{length-map, length-set, get_or_past, get_or-set_same, get_or-set_other}
use Rattle.step_meaning.specs.Syntax as syntax
use Rattle.call_meaning.specs.Units.{Command, of_list, Table}
use Rattle.call_meaning.specs.Units as unit
use Rattle.call_meaning.specs.Reads.{Places, also, Reads, ValueReads, TargetIsIn, AreSet, behind}
use Rattle.concrete_syntax.specs.declared.sign.Assignment.{Assignment}
use Rattle.concrete_syntax.specs.declared.sign.Step.{Step}
use Rattle.concrete_syntax.specs.declared.sign.Step.TheVariants.{Increment, Decrement}
use Rattle.concrete_syntax.specs.Trees.{Expression, Name as Named, Call, Action, assigns, steps, Simple, acts, steps_before, Value, evaluates, answers, Part, Start, starts_with_nothing, starts_with, declares, Statement, statement_at, simple, calls, gives, skip, braces, conditional, while_loop, do_loop, for_loop, return, break, continue, Otherwise, without, otherwise, Items, none, declaration, statement}
use Rattle.elaboration.specs.declared.context.Body.{Body}
use Rattle.elaboration.specs.declared.context.Body.TheVariants.{Main, Valued, Valueless}
use Rattle.elaboration.specs.Contexts.{Context, deeper, looping}
use Rattle.elaboration.specs.Guards.{guards, around_statement, around_rest}
use Rattle.elaboration.specs.Functions.{signature_of}
use Rattle.typed_expressions.specs.Scopes.{Scope, Name, is_among, place_of, with_variable, most_variables, declare}
use Rattle.typed_expressions.specs.Expressions.{unknown_name, expression_typed, expression_faults, number_faults}
use Rattle.elaboration.specs.Statements.{Walked, assigned, stepped, action_meaning, action_faults, simple_meaning, simple_faults, optional_simple_walked, name_faults, is_bare, initialiser_walked, part_walked, parts_walked, declaration_walked, start_walked, followed, optional_faults, optional_test, arguments_faults, arguments_meaning, signature_faults, is_wanted, call_walked, misplaced, return_faults, returned_value, statement_walked, otherwise_walked, items_walked}
use Rattle.elaboration.proofs.Bodies.{declared_known, sound_behind}
use Rattle.elaboration.proofs.Following.{follow}
use Rattle.elaboration.proofs.Declared.{OnNames, Over, IsKept, among_with, no_fewer, few_kept, parts_keep, start_keeps, statement_keeps, otherwise_keeps, items_keep}
use Rattle.elaboration.proofs.Jumps.{HasFunctions, call_known}
use Rattle.typed_expressions.proofs.Names.{among_cases, place_below, place_front}
use Rattle.elaboration.proofs.Reading.{IsShown, name_reads, expression_reads, number_reads, test_reads, arguments_read}
use Rattle.elaboration.proofs.Scoping.{statement_visible}
use Rattle.typed_expressions.proofs.Valid.{IsSound, both_none, some_is_not_none, name_typed}

-- ── What only grows ──

-- names that are declared keep their places, and variables without initialiser stay so
pub record Grows (first : Scope) (others : ℕ) (names : List Name) (free : List Bool) : Type 0 where
  pub more : length first.declared ≤ length names
  pub kept : (x : Name) → is_among first.declared x ≡ true → (is_among names x ≡ true) × (place_of names x ≡ place_of first.declared x)
  pub stay : (y : ℕ) → IsTrue (slice_index_or first.free y false) → IsTrue (slice_index_or free y false)
  pub long : length free ≡ length first.free
  pub few : others + length names ≤ 15

pub grown_first : (scope : Scope) → scope.others + length scope.declared ≤ 15 → Over (Grows scope) scope
grown_first scope few = record { more = omega arith; kept = λ x known. (known, refl); stay = λ y h. h; long = refl; few = few }

place_with : (others : ℕ) (names : List Name) (x y : Name) → is_among names y ≡ true → place_of (with_variable others names x) y ≡ place_of names y
place_with others names x y known = by_known (is_among names x)
  where
    by_room : (room : Bool) → place_of (if room then names ++ x ∷ [] else names) y ≡ place_of names y
    by_room true = place_front names (x ∷ []) y known
    by_room false = refl

    by_known : (among : Bool)
        → place_of (if among then names else if nat_lt (others + length names) most_variables then names ++ x ∷ [] else names) y ≡ place_of names y
    by_known true = refl
    by_known false = by_room (nat_lt (others + length names) most_variables)

-- where a list of truth values says true it isn't past its end
within_true : (free : List Bool) (y : ℕ) → IsTrue (slice_index_or free y false) → y < length free
within_true free y h = by_length (nat_lt y (length free)) refl
  where
    by_length : (less : Bool) → nat_lt y (length free) ≡ less → y < length free
    by_length true e = ltb-true _ _ e
    by_length false e =
        let apart : ¬ (y < length free) = λ lt. false≢true (sym e ∙ lt-ltb y (length free) lt) in
        absurd (false≢true (sym (get_or_past free y false (omega (arith, apart))) ∙ h))

stays_set : (free : List Bool) (place y : ℕ) → IsTrue (slice_index_or free y false) → IsTrue (slice_index_or (slice_set free place true) y false)
stays_set free place y h = by_same (nat_eq y place) refl
  where
    by_within : nat_eq y place ≡ true → y < length free → IsTrue (slice_index_or (slice_set free place true) y false)
    by_within e within =
        let same : y ≡ place = (Decides-eqb y place).0 e in
        ap (λ i. slice_index_or (slice_set free place true) i false) same ∙ get_or-set_same free place true false (subst (λ i. i < length free) same within)

    by_same : (same : Bool) → nat_eq y place ≡ same → IsTrue (slice_index_or (slice_set free place true) y false)
    by_same true e = by_within e (within_true free y h)
    by_same false e =
        get_or-set_other free place y true false (λ same. false≢true (sym e ∙ (Decides-eqb y place).1 same)) ∙ h

pub grows_kept : (first : Scope) → IsKept (Grows first)
grows_kept first others names free x bare h = record {
  more = no_fewer (length first.declared) others names x h.more;
  kept = λ y known. (
    among_with y others names x (h.kept y known).0,
    place_with others names x y (h.kept y known).0 ∙ (h.kept y known).1,
  );
  stay = λ y f. by_bare y (h.stay y f) (bare && is_among (with_variable others names x) x);
  long = by_length (bare && is_among (with_variable others names x) x);
  few = few_kept others names free x bare h.few;
}
  where
    place : ℕ
    place = place_of (with_variable others names x) x

    by_bare : (y : ℕ) → IsTrue (slice_index_or free y false) → (b : Bool) → IsTrue (slice_index_or (if b then slice_set free place true else free) y false)
    by_bare y f true = stays_set free place y f
    by_bare y f false = f

    by_length : (b : Bool) → length (if b then slice_set free place true else free) ≡ length first.free
    by_length true = length-set free place true ∙ h.long
    by_length false = h.long

-- which places are free are those of variables
abbrev pub FreeBelow : OnNames
FreeBelow = λ others names free. (y : ℕ) → IsTrue (slice_index_or free y false) → y < length names

set_below : (free : List Bool) (place vars y : ℕ) → place < vars → (IsTrue (slice_index_or free y false) → y < vars)
    → IsTrue (slice_index_or (slice_set free place true) y false) → y < vars
set_below free place vars y below before h = by_same (nat_eq y place) refl
  where
    by_same : (same : Bool) → nat_eq y place ≡ same → y < vars
    by_same true e = let is : y ≡ place = (Decides-eqb y place).0 e in omega (arith, is, below)
    by_same false e =
        before (sym (get_or-set_other free place y true false (λ same. false≢true (sym e ∙ (Decides-eqb y place).1 same))) ∙ h)

pub free_below_kept : IsKept FreeBelow
free_below_kept others names free x bare h = by_known bare (is_among (with_variable others names x) x) refl
  where
    old_below : (y : ℕ) → IsTrue (slice_index_or free y false) → y < length (with_variable others names x)
    old_below y f = let below = h y f in let more = no_fewer (length names) others names x (omega arith) in omega (arith, below, more)

    by_known : (b known : Bool) → is_among (with_variable others names x) x ≡ known → (y : ℕ)
        → IsTrue (slice_index_or (if b && known then slice_set free (place_of (with_variable others names x) x) true else free) y false)
        → y < length (with_variable others names x)
    by_known true true e y f =
        set_below free (place_of (with_variable others names x) x) (length (with_variable others names x)) y
        (place_below (with_variable others names x) x e) (old_below y) f
    by_known true false e y f = old_below y f
    by_known false known e y f = old_below y f

-- ── What is set ──

abbrev pub behind_all : Places → List Command → Places
behind_all shown [] = shown
behind_all shown (first ∷ more) = behind_all (behind shown first) more

also_keeps : (x : ℕ) (shown : Places) (y : ℕ) → IsTrue (shown y) → IsTrue (also x shown y)
also_keeps x shown y h = by_same (nat_eq y x)
  where
    by_same : (same : Bool) → IsTrue (same || shown y)
    by_same true = refl
    by_same false = h

also_itself : (x : ℕ) (shown : Places) → IsTrue (also x shown x)
also_itself x shown = ap (λ same. same || shown x) ((Decides-eqb x x).1 refl)

behind_keeps : (shown : Places) (first : Command) (y : ℕ) → IsTrue (shown y) → IsTrue (behind shown first y)
behind_keeps shown (unit.assign x e) y h = also_keeps x shown y h
behind_keeps shown (unit.call (Some x) f arguments) y h = also_keeps x shown y h
behind_keeps shown (unit.call None f arguments) y h = h
behind_keeps shown unit.skip y h = h
behind_keeps shown (unit.return value) y h = h
behind_keeps shown unit.break y h = h
behind_keeps shown unit.continue y h = h
behind_keeps shown (unit.if_else c one other) y h = h
behind_keeps shown (unit.while_loop c body step) y h = h
behind_keeps shown (unit.do_while body c) y h = h

all_keep : (shown : Places) (xs : List Command) (y : ℕ) → IsTrue (shown y) → IsTrue (behind_all shown xs y)
all_keep shown [] y h = h
all_keep shown (first ∷ more) y h = all_keep (behind shown first) more y (behind_keeps shown first y h)

behind_append : (shown : Places) (xs ys : List Command) → behind_all shown (xs ++ ys) ≡ behind_all (behind_all shown xs) ys
behind_append shown [] ys = refl
behind_append shown (first ∷ xs) ys = behind_append (behind shown first) xs ys

-- a place of the body, where these are set: what may be used is a variable and is set
pub record Ready (shown : Places) (scope : Scope) : Type 0 where
  pub sound : IsSound scope
  pub sees : IsShown shown scope
  pub long : length scope.free ≡ 16
  pub few : scope.others + length scope.declared ≤ 15

-- more may be set, and more declared, where what may be used is the same
ready_on : (shown later : Places) (scope behind_it : Scope) → Ready shown scope → ((y : ℕ) → IsTrue (shown y) → IsTrue (later y))
    → Over (Grows scope) behind_it → behind_it.visible ≡ scope.visible → Ready later behind_it
ready_on shown later scope behind_it ready more grown same = record {
  sound = λ x seen. (grown.kept x (ready.sound x (subst (λ names. is_among names x ≡ true) same seen))).0;
  sees = λ x seen.
      let before = subst (λ names. is_among names x ≡ true) same seen in
      subst (λ place. IsTrue (later place)) (sym (grown.kept x (ready.sound x before)).1) (more _ (ready.sees x before));
  long = grown.long ∙ ready.long;
  few = grown.few;
}

-- behind a declaration of a name that is set
pub declared_ready : (shown later : Places) (scope : Scope) (x : Named) (initialiser : Option Value) (bare : Bool) → Ready shown scope
    → ((y : ℕ) → IsTrue (shown y) → IsTrue (later y)) → name_faults scope x initialiser ≡ []
    → IsTrue (later (place_of (with_variable scope.others scope.declared x.bytes) x.bytes)) → Ready later (declare scope x.bytes bare)
declared_ready shown later scope x initialiser bare ready more clean own =
    let known = declared_known scope x initialiser clean in
    let grown = grows_kept scope scope.others scope.declared scope.free x.bytes bare (grown_first scope ready.few) in
    record {
      sound = sound_behind scope x.bytes bare ready.sound known;
      sees = λ y seen. by_case grown y (among_cases scope.visible x.bytes y seen);
      long = grown.long ∙ ready.long;
      few = grown.few;
    }
  where
    by_case : Over (Grows scope) (declare scope x.bytes bare) → (y : Name) → (is_among scope.visible y ≡ true) ⊎ (x.bytes ≡ y)
        → IsTrue (later (place_of (with_variable scope.others scope.declared x.bytes) y))
    by_case grown y (inl before) =
        subst (λ place. IsTrue (later place)) (sym (grown.kept y (ready.sound y before)).1) (more _ (ready.sees y before))
    by_case grown y (inr same) = subst (λ z. IsTrue (later (place_of (with_variable scope.others scope.declared x.bytes) z))) same own

-- ── Of one body: its table, how many variables it has, and which of them are free ──

module _ (table : Table) (k vars : ℕ) (free : List Bool) where
  abbrev AllSet : Places → List Command → Type 0
  AllSet shown xs = AreSet table vars shown (of_list xs)

  -- the variables without initialiser are set
  abbrev Frees : Places → Type 0
  Frees shown = (y : ℕ) → IsTrue (slice_index_or free y false) → IsTrue (shown y)

  -- the names of a scope, and its variables without initialiser, are some of the body's
  abbrev IsWithin : Scope → Type 0
  IsWithin scope = (length scope.declared ≤ vars) × ((y : ℕ) → IsTrue (slice_index_or scope.free y false) → IsTrue (slice_index_or free y false))

  within_back : (scope later : Scope) → Over (Grows scope) later → IsWithin later → IsWithin scope
  within_back scope later grown inside = (omega (arith, grown.more, inside.0), λ y h. inside.1 y (grown.stay y h))

  frees_on : (shown : Places) (xs : List Command) → Frees shown → Frees (behind_all shown xs)
  frees_on shown xs frees y h = all_keep shown xs y (frees y h)

  set_append : (shown : Places) (xs ys : List Command) → AllSet shown xs → AllSet (behind_all shown xs) ys → AllSet shown (xs ++ ys)
  set_append shown [] ys first second = second
  set_append shown (x ∷ xs) ys first second = (first.0, set_append (behind shown x) xs ys first.1 second)

  set_followed : (shown : Places) (guarded : Bool) (xs ys : List Command) → AllSet shown xs → AllSet (behind_all shown xs) ys
      → AllSet shown (followed guarded xs ys)
  set_followed shown guarded xs ys first second =
      follow (AllSet shown) guarded xs ys (set_append shown xs ys first second)
      (λ test one other is.
      let set = subst (AllSet shown) is first in
      ((set.0.0, set.0.1, subst (λ zs. AllSet (behind_all shown zs) ys) is second), tt))

  -- ── Simple statements ──

  assigned_reads : (shown : Places) (x : ℕ) (assignment : Assignment) (e : syntax.Expression) → IsTrue (shown x) → Reads shown e → Reads shown (assigned x assignment e)
  assigned_reads shown x Assignment.Assign e own is = is
  assigned_reads shown x Assignment.Add e own is = (own, is)
  assigned_reads shown x Assignment.Subtract e own is = (own, is)
  assigned_reads shown x Assignment.Multiply e own is = (own, is)

  stepped_reads : (shown : Places) (x : ℕ) (step : Step) → IsTrue (shown x) → Reads shown (stepped x step)
  stepped_reads shown x Increment own = (own, tt)
  stepped_reads shown x Decrement own = (own, tt)

  action_reads : (shown : Places) (scope : Scope) → Ready shown scope → (x : ℕ) (action : Action) → IsTrue (shown x) → action_faults scope action ≡ []
      → Reads shown (action_meaning scope x action)
  action_reads shown scope ready x (assigns assignment e) own clean =
      assigned_reads shown x assignment (expression_typed scope e).meaning own (number_reads shown scope ready.sees e clean)
  action_reads shown scope ready x (steps step) own clean = stepped_reads shown x step own

  simple_set : (shown : Places) (scope : Scope) → Ready shown scope → IsWithin scope → (s : Simple) → simple_faults scope s ≡ []
      → AllSet shown (simple_meaning scope s ∷ [])
  simple_set shown scope ready inside (acts x action) clean =
      let parts = both_none (unknown_name scope x.at x.bytes) (action_faults scope action) clean in
      let own = name_reads shown scope ready.sees x.at x.bytes parts.0 in
      let named = name_typed vars scope x.at x.bytes ready.sound inside.0 parts.0 in
      ((named.1, action_reads shown scope ready (place_of scope.declared x.bytes) action own parts.1), tt)
  simple_set shown scope ready inside (steps_before at step x) clean =
      let own = name_reads shown scope ready.sees x.at x.bytes clean in
      let named = name_typed vars scope x.at x.bytes ready.sound inside.0 clean in
      ((named.1, stepped_reads shown (place_of scope.declared x.bytes) step own), tt)

  optional_simple_set : (shown : Places) (scope : Scope) → Ready shown scope → IsWithin scope → (s : Option Simple)
      → (optional_simple_walked scope s).faults ≡ [] → AllSet shown (optional_simple_walked scope s).body
  optional_simple_set shown scope ready inside (Some s) clean = simple_set shown scope ready inside s clean
  optional_simple_set shown scope ready inside None clean = tt

  -- ── Calls ──

  call_set : (c : Context) → HasFunctions table k c.functions → (shown : Places) (scope : Scope) → Ready shown scope → (target : Option ℕ)
      → TargetIsIn vars target → (call : Call) → (call_walked c scope target call).faults ≡ [] → AllSet shown (call_walked c scope target call).body
  call_set c has shown scope ready target below call clean =
      let own = signature_faults (signature_of c.functions call.function.bytes) call.function.at (length call.arguments) (is_wanted target) in
      let faultless = both_none own (arguments_faults scope call.arguments) clean in
      let known = call_known c.functions call.function (length call.arguments) target faultless.0 in
      let is = has call.function.bytes known.0 known.1 in
      let count : length (arguments_meaning scope call.arguments) ≡ (table (place_of c.functions.names call.function.bytes)).params =
      length-map call.arguments (λ e. (expression_typed scope e).meaning) ∙ known.3 ∙ sym is.params
      in
      ((below, arguments_read shown scope ready.sees call.arguments faultless.1, count), tt)

  -- ── Declarations ──

  abbrev Does : Places → Walked → Type 0
  Does shown w = AllSet shown w.body × Ready (behind_all shown w.body) w.scope

  -- behind a declaration of a name that is set
  part_does : (c : Context) → HasFunctions table k c.functions → (shown : Places) (scope : Scope) → Ready shown scope → Frees shown → (part : Part)
      → IsWithin (part_walked c scope part).scope → (part_walked c scope part).faults ≡ [] → Does shown (part_walked c scope part)
  part_does c has shown scope ready frees part inside clean = by_initialiser part.declared part.initialiser inside clean
    where
      by_initialiser : (x : Named) (initialiser : Option Value)
          → IsWithin (declare scope x.bytes (is_bare initialiser))
          → name_faults scope x initialiser ++ (initialiser_walked c scope (declare scope x.bytes (is_bare initialiser)) x initialiser).faults ≡ []
          → AllSet shown (initialiser_walked c scope (declare scope x.bytes (is_bare initialiser)) x initialiser).body
          × Ready (behind_all shown (initialiser_walked c scope (declare scope x.bytes (is_bare initialiser)) x initialiser).body)
          (declare scope x.bytes (is_bare initialiser))
      by_initialiser x (Some (evaluates e)) inside clean =
          let place = place_of (with_variable scope.others scope.declared x.bytes) x.bytes in
          let parts = both_none (name_faults scope x (Some (evaluates e))) (number_faults scope e) clean in
          let known = declared_known scope x (Some (evaluates e)) parts.0 in
          let below = place_below (with_variable scope.others scope.declared x.bytes) x.bytes known in (
            ((omega (arith, below, inside.0), number_reads shown scope ready.sees e parts.1), tt),
            declared_ready shown (also place shown) scope x (Some (evaluates e)) false ready (λ y h. also_keeps place shown y h) parts.0 (also_itself place shown),
          )
      by_initialiser x (Some (answers call)) inside clean =
          let place = place_of (with_variable scope.others scope.declared x.bytes) x.bytes in
          let parts = both_none (name_faults scope x (Some (answers call))) (call_walked c scope (Some place) call).faults clean in
          let known = declared_known scope x (Some (answers call)) parts.0 in
          let below = place_below (with_variable scope.others scope.declared x.bytes) x.bytes known in (
            call_set c has shown scope ready (Some place) (omega (arith, below, inside.0)) call parts.1,
            declared_ready shown (also place shown) scope x (Some (answers call)) false ready (λ y h. also_keeps place shown y h) parts.0 (also_itself place shown),
          )
      by_initialiser x None inside clean =
          let names = with_variable scope.others scope.declared x.bytes in
          let place = place_of names x.bytes in
          let parts = both_none (name_faults scope x None) [] clean in
          let known = declared_known scope x None parts.0 in
          let below = place_below names x.bytes known in
          let few = few_kept scope.others scope.declared scope.free x.bytes true ready.few in
          let room : place < length scope.free = omega (arith, below, few, ready.long) in
          let is_free : IsTrue (slice_index_or (declare scope x.bytes true).free place false) =
          ap (λ is. slice_index_or (if is then slice_set scope.free place true else scope.free) place false) known ∙ get_or-set_same scope.free place true false room
          in
          (tt, declared_ready shown shown scope x None true ready (λ y h. h) parts.0 (frees place (inside.1 place is_free)))

  parts_does : (c : Context) → HasFunctions table k c.functions → (shown : Places) (scope : Scope) → Ready shown scope → Frees shown → (parts : List Part)
      → IsWithin (parts_walked c scope parts).scope → (parts_walked c scope parts).faults ≡ [] → Does shown (parts_walked c scope parts)
  parts_does c has shown scope ready frees [] inside clean = (tt, ready)
  parts_does c has shown scope ready frees (part ∷ more) inside clean =
      let w = part_walked c scope part in
      let rest = parts_walked c w.scope more in
      let faultless = both_none w.faults rest.faults clean in
      let few = few_kept scope.others scope.declared scope.free part.declared.bytes (is_bare part.initialiser) ready.few in
      let grown = parts_keep c (Grows w.scope) (grows_kept w.scope) w.scope more (grown_first w.scope few) in
      let one = part_does c has shown scope ready frees part (within_back w.scope rest.scope grown inside) faultless.0 in
      let other = parts_does c has (behind_all shown w.body) w.scope one.1 (frees_on shown w.body frees) more inside faultless.1 in (
        set_append shown w.body rest.body one.0 other.0,
        subst (λ p. Ready p rest.scope) (sym (behind_append shown w.body rest.body)) other.1,
      )

  start_does : (c : Context) → HasFunctions table k c.functions → (shown : Places) (scope : Scope) → Ready shown scope → Frees shown → (start : Start)
      → IsWithin (start_walked c scope start).scope → (start_walked c scope start).faults ≡ [] → Does shown (start_walked c scope start)
  start_does c has shown scope ready frees starts_with_nothing inside clean = (tt, ready)
  start_does c has shown scope ready frees (starts_with s) inside clean = (
    simple_set shown scope ready inside s clean,
    ready_on shown (behind_all shown (simple_meaning scope s ∷ [])) scope scope ready (all_keep shown (simple_meaning scope s ∷ []))
        (grown_first scope ready.few) refl,
  )
  start_does c has shown scope ready frees (declares d) inside clean = parts_does c has shown scope ready frees (d.part ∷ d.more) inside clean

  optional_reads : (shown : Places) (scope : Scope) → Ready shown scope → (test : Option Expression) → optional_faults scope test ≡ []
      → Reads shown (optional_test scope test)
  optional_reads shown scope ready (Some e) clean = test_reads shown (expression_typed scope e) (expression_reads shown scope ready.sees e clean)
  optional_reads shown scope ready None clean = tt

  -- ── Returns ──

  return_set : (body : Body) (last : Bool) (shown : Places) (scope : Scope) → Ready shown scope → (at : ℕ) (value : Option Expression)
      → return_faults body last scope at value ≡ [] → ValueReads shown (returned_value body scope value)
  return_set Main last shown scope ready at value clean = tt
  return_set Valued last shown scope ready at (Some e) clean =
      number_reads shown scope ready.sees e (both_none (misplaced last at) (number_faults scope e) clean).1
  return_set Valued last shown scope ready at None clean = tt
  return_set Valueless last shown scope ready at (Some e) clean = absurd (some_is_not_none _ _ clean)
  return_set Valueless last shown scope ready at None clean = tt

  -- ── Statements ──

  -- behind a statement
  statement_grows : (c : Context) (shown : Places) (scope : Scope) → Ready shown scope → (s : Statement) → Over (Grows scope) (statement_walked c scope s).scope
  statement_grows c shown scope ready s = statement_keeps c (Grows scope) (grows_kept scope) scope s (grown_first scope ready.few)

  statement_ready : (c : Context) (shown later : Places) (scope : Scope) → Ready shown scope → ((y : ℕ) → IsTrue (shown y) → IsTrue (later y))
      → (s : Statement) → Ready later (statement_walked c scope s).scope
  statement_ready c shown later scope ready more s =
      ready_on shown later scope (statement_walked c scope s).scope ready more (statement_grows c shown scope ready s) (statement_visible c scope s)

  mutual
    statement_set : (c : Context) → HasFunctions table k c.functions → (shown : Places) (scope : Scope) → Ready shown scope → Frees shown → (s : Statement)
        → IsWithin (statement_walked c scope s).scope → (statement_walked c scope s).faults ≡ [] → AllSet shown (statement_walked c scope s).body
    statement_set c has shown scope ready frees (statement_at at (simple s)) inside clean = simple_set shown scope ready inside s clean
    statement_set c has shown scope ready frees (statement_at at (calls call)) inside clean = call_set c has shown scope ready None tt call clean
    statement_set c has shown scope ready frees (statement_at at (gives x call)) inside clean =
        let target = Some (place_of scope.declared x.bytes) in
        let faultless = both_none (unknown_name scope x.at x.bytes) (call_walked c scope target call).faults clean in
        let named = name_typed vars scope x.at x.bytes ready.sound inside.0 faultless.0 in
        call_set c has shown scope ready target named.1 call faultless.1
    statement_set c has shown scope ready frees (statement_at at skip) inside clean = (tt, tt)
    statement_set c has shown scope ready frees (statement_at at (braces all)) inside clean = items_set (deeper c) has shown scope ready frees all inside clean
    statement_set c has shown scope ready frees (statement_at at (conditional test part other)) inside clean =
        let d = deeper c in
        let first = statement_walked d scope part in
        let second = otherwise_walked d first.scope other in
        let outer = both_none (expression_faults scope test) (first.faults ++ second.faults) clean in
        let inner = both_none first.faults second.faults outer.1 in
        let next = statement_ready d shown shown scope ready (λ y h. h) part in
        let grown = otherwise_keeps d (Grows first.scope) (grows_kept first.scope) first.scope other (grown_first first.scope next.few) in (
          (
            test_reads shown (expression_typed scope test) (expression_reads shown scope ready.sees test outer.0),
            statement_set d has shown scope ready frees part (within_back first.scope second.scope grown inside) inner.0,
            otherwise_set d has shown first.scope next frees other inside inner.1,
          ),
          tt,
        )
    statement_set c has shown scope ready frees (statement_at at (while_loop test body)) inside clean =
        let d = looping c in
        let faultless = both_none (expression_faults scope test) (statement_walked d scope body).faults clean in (
          (
            test_reads shown (expression_typed scope test) (expression_reads shown scope ready.sees test faultless.0),
            statement_set d has shown scope ready frees body inside faultless.1,
            tt,
          ),
          tt,
        )
    statement_set c has shown scope ready frees (statement_at at (do_loop body end test)) inside clean =
        let d = looping c in
        let middle = (statement_walked d scope body).scope in
        let faultless = both_none (statement_walked d scope body).faults (expression_faults middle test) clean in
        let next = statement_ready d shown shown scope ready (λ y h. h) body in (
          (
            test_reads shown (expression_typed middle test) (expression_reads shown middle next.sees test faultless.1),
            statement_set d has shown scope ready frees body inside faultless.0,
          ),
          tt,
        )
    statement_set c has shown scope ready frees (statement_at at (for_loop start test step body)) inside clean =
        let d = looping c in
        let before = start_walked (deeper c) scope start in
        let loop = statement_walked d before.scope body in
        let last = (optional_simple_walked before.scope step).faults ++ loop.faults in
        let outer = both_none before.faults (optional_faults before.scope test ++ last) clean in
        let inner = both_none (optional_faults before.scope test) last outer.1 in
        let parts = both_none (optional_simple_walked before.scope step).faults loop.faults inner.1 in
        let few = (start_keeps (deeper c) (Grows scope) (grows_kept scope) scope start (grown_first scope ready.few)).few in
        let grown = statement_keeps d (Grows before.scope) (grows_kept before.scope) before.scope body (grown_first before.scope few) in
        let room = within_back before.scope loop.scope grown inside in
        let one = start_does (deeper c) has shown scope ready frees start room outer.0 in
        let later = behind_all shown before.body in
        set_append shown before.body (unit.while_loop _ _ _ ∷ []) one.0 (
          (
            optional_reads later before.scope one.1 test inner.0,
            statement_set d has later before.scope one.1 (frees_on shown before.body frees) body inside parts.1,
            optional_simple_set later before.scope one.1 room step parts.0,
          ),
          tt,
        )
    statement_set c has shown scope ready frees (statement_at at (return value)) inside clean = (return_set c.body c.last shown scope ready at value clean, tt)
    statement_set c has shown scope ready frees (statement_at at break) inside clean = (tt, tt)
    statement_set c has shown scope ready frees (statement_at at continue) inside clean = (tt, tt)

    otherwise_set : (c : Context) → HasFunctions table k c.functions → (shown : Places) (scope : Scope) → Ready shown scope → Frees shown → (other : Otherwise)
        → IsWithin (otherwise_walked c scope other).scope → (otherwise_walked c scope other).faults ≡ [] → AllSet shown (otherwise_walked c scope other).body
    otherwise_set c has shown scope ready frees without inside clean = tt
    otherwise_set c has shown scope ready frees (otherwise s) inside clean = statement_set (deeper c) has shown scope ready frees s inside clean

    pub items_set : (c : Context) → HasFunctions table k c.functions → (shown : Places) (scope : Scope) → Ready shown scope → Frees shown → (all : Items)
        → IsWithin (items_walked c scope all).scope → (items_walked c scope all).faults ≡ [] → AllSet shown (items_walked c scope all).body
    items_set c has shown scope ready frees none inside clean = tt
    items_set c has shown scope ready frees (declaration d more) inside clean =
        let w = declaration_walked c scope d in
        let rest = items_walked c w.scope more in
        let faultless = both_none w.faults rest.faults clean in
        let few = (parts_keep c (Grows scope) (grows_kept scope) scope (d.part ∷ d.more) (grown_first scope ready.few)).few in
        let grown = items_keep c (Grows w.scope) (grows_kept w.scope) w.scope more (grown_first w.scope few) in
        let one = parts_does c has shown scope ready frees (d.part ∷ d.more) (within_back w.scope rest.scope grown inside) faultless.0 in
        set_append shown w.body rest.body one.0
        (items_set c has (behind_all shown w.body) w.scope one.1 (frees_on shown w.body frees) more inside faultless.1)
    items_set c has shown scope ready frees (statement s more) inside clean =
        let around = around_statement c s more in
        let d = around_rest c s in
        let w = statement_walked around scope s in
        let rest = items_walked d w.scope more in
        let faultless = both_none w.faults rest.faults clean in
        let next = statement_ready around shown (behind_all shown w.body) scope ready (all_keep shown w.body) s in
        let grown = items_keep d (Grows w.scope) (grows_kept w.scope) w.scope more (grown_first w.scope next.few) in
        set_followed shown (guards c s) w.body rest.body (statement_set around has shown scope ready frees s (within_back w.scope rest.scope grown inside) faultless.0)
        (items_set d has (behind_all shown w.body) w.scope next (frees_on shown w.body frees) more inside faultless.1)
