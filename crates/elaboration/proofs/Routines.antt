-- Without faults, the functions that a tree stands for are in order.
use Rattle.std.proofs.Common.{◌≡◌, ◌≢◌, ℕ, zero, suc, ◌+◌, ◌<◌, ◌≤◌, Bool, true, false, nat_lt, nat_eq, ◌||◌, IsTrue, List, [], ◌∷◌, ◌++◌, None, Some, length, map, replicate, slice_get, slice_index_or, ◌⊎◌, inl, inr, refl, sym, ap, ◌∙◌, subst, arith, if◌then◌else◌}
use Rattle.std.proofs.lemmas.Bool.{false≢true, ltb-true, lt-ltb}
use Rattle.std.proofs.lemmas.Bool.Decides.{Decides-eqb}
use Rattle.std.proofs.lemmas.List.{length-append, get_or-replicate, get_or_past, get_or_append_left}
use Rattle.std.proofs.lemmas.Option.{none-some, same_Some, slice_get-get_or}
use Rattle.std.proofs.Math.Seq.{get_or-append_seam}
use Rattle.source_lex.specs.declared.token.Token.{Token}
use Rattle.call_meaning.specs.declared.statement.Func.{Func}
use Rattle.call_meaning.specs.Reads.{Places, AreSet, among, given}
use Rattle.call_meaning.specs.Sorts.{AreSorted}
use Rattle.call_meaning.specs.Tables.{commands, gives_value, places_from, routine, table_from}
use Rattle.call_meaning.specs.Units.{of_list, Routine, Table}
use Rattle.call_meaning.specs.Validity.{Closes}
use Rattle.concrete_syntax.specs.Trees.{Name as Named, Function}
use Rattle.typed_expressions.specs.declared.fault.Rule.TheVariants.{Twice}
use Rattle.elaboration.specs.declared.functions.Signature.{Signature}
use Rattle.elaboration.specs.Contexts.{at_top, body_of}
use Rattle.elaboration.specs.Guards.{items_return}
use Rattle.elaboration.specs.Elaborates.{Made, made_of, parameters_of, behind_parameters, parameters_faults, entered, function_walked, missing_faults, twice_faults, function_faults, functions_faults, signature, functions_behind, others_behind, function_made, functions_made, known_behind, variables_behind}
use Rattle.typed_expressions.specs.Faults.{fault}
use Rattle.elaboration.specs.Functions.{Functions, signature_of}
use Rattle.typed_expressions.specs.Scopes.{Scope, Name, is_among, place_of, no_names, with_variable, declare}
use Rattle.elaboration.specs.Statements.{Walked, name_faults}
use Rattle.elaboration.proofs.Behind.{others_few}
use Rattle.elaboration.proofs.Bodies.{declared_known, items_valid}
use Rattle.elaboration.proofs.Declared.{count_kept, parameters_keep, items_keep}
use Rattle.elaboration.proofs.Jumps.{HasFunction, HasFunctions}
use Rattle.typed_expressions.proofs.Names.{among_cases, place_below, place_front, place_last}
use Rattle.elaboration.proofs.Signatures.{pushed, with_new}
use Rattle.elaboration.proofs.Returns.{items_closes, closes_gives, none_missing}
use Rattle.elaboration.proofs.Setting.{Ready, declared_ready, FreeBelow, free_below_kept, items_set}
use Rattle.elaboration.proofs.Tabled.{vars_of}
use Rattle.typed_expressions.proofs.Valid.{both_none, some_is_not_none}

-- ── What a function of the code is ──

pub record IsRow (functions : Functions) (others : ℕ) (tree : Function) (f : Func) : Type 0 where
  pub params : f.params ≡ length (entered others tree).declared
  pub names : f.names ≡ (function_walked functions others tree).scope.declared
  pub free : f.free ≡ (function_walked functions others tree).scope.free
  pub body : commands f.body ≡ of_list (function_walked functions others tree).body

abbrev pub AreRows : Functions → ℕ → List Function → List Func → Type 0
AreRows functions others [] [] = Unit {0}
AreRows functions others [] (f ∷ rest) = ⊥
AreRows functions others (tree ∷ more) [] = ⊥
AreRows functions others (tree ∷ more) (f ∷ rest) =
    IsRow functions others tree f × AreRows (functions_behind functions others tree) (others_behind functions others tree) more rest

abbrev first_or : Made → List Made → Made
first_or d [] = d
first_or d (x ∷ more) = x

abbrev others_of : List Made → List Made
others_of [] = []
others_of (x ∷ more) = more

row_of : (tokens : List Token) (functions : Functions) (others : ℕ) (tree : Function) (f : Func) → made_of f ≡ function_made tokens functions others tree
    → IsRow functions others tree f
row_of tokens functions others tree f is = record {
  params = ap (λ m. m.params) is;
  names = ap (λ m. m.names) is;
  free = ap (λ m. m.free) is;
  body = ap (λ m. m.body) is;
}

pub rows_of : (tokens : List Token) (functions : Functions) (others : ℕ) (trees : List Function) (funcs : List Func)
    → map made_of funcs ≡ functions_made tokens functions others trees → AreRows functions others trees funcs
rows_of tokens functions others [] [] is = tt
rows_of tokens functions others [] (f ∷ rest) is = absurd (some_is_not_none _ _ is)
rows_of tokens functions others (tree ∷ more) [] is = absurd (some_is_not_none _ _ (sym is))
rows_of tokens functions others (tree ∷ more) (f ∷ rest) is = (
  row_of tokens functions others tree f (ap (first_or (made_of f)) is),
  rows_of tokens (functions_behind functions others tree) (others_behind functions others tree) more rest (ap others_of is),
)

-- ── A function is known behind itself ──

twice_none : (functions : Functions) (x : Named) → twice_faults functions x ≡ [] → is_among functions.names x.bytes ≡ false
twice_none functions x clean = by_known (is_among functions.names x.bytes) refl clean
  where
    by_known : (known : Bool) → is_among functions.names x.bytes ≡ known → (if known then fault Twice x.at ∷ [] else []) ≡ []
        → is_among functions.names x.bytes ≡ false
    by_known true e h = absurd (some_is_not_none _ [] h)
    by_known false e h = e

get_front : {A : Type 0} (xs ys : List A) (i : ℕ) (d : A) → i < length xs → slice_get (xs ++ ys) i ≡ slice_get xs i
get_front xs ys i d within =
    slice_get-get_or (xs ++ ys) i d (omega (arith, within, length-append xs ys)) ∙ ap Some (get_or_append_left xs ys d i within)
    ∙ sym (slice_get-get_or xs i d within)

get_last : {A : Type 0} (xs : List A) (x : A) → slice_get (xs ++ x ∷ []) (length xs) ≡ Some x
get_last xs x =
    slice_get-get_or (xs ++ x ∷ []) (length xs) x (omega (arith, length-append xs (x ∷ []))) ∙ ap Some (get_or-append_seam xs x [] x)

has_more : {table : Table} {k f : ℕ} {s : Signature} → HasFunction table k f s → HasFunction table (suc k) f s
has_more has = record { below = omega (arith, has.below); params = has.params; valued = has.valued }

has_next : (table : Table) (k : ℕ) (functions : Functions) (x : Name) (s : Signature) → HasFunctions table k functions → is_among functions.names x ≡ false
    → length functions.names ≡ k → length functions.signatures ≡ k → HasFunction table (suc k) k s → HasFunctions table (suc k) (pushed functions x s)
has_next table k functions x s has none names signatures own y t is =
    by_among (is_among (functions.names ++ x ∷ []) y) refl is
  where
    place : ℕ
    place = place_of (functions.names ++ x ∷ []) y

    by_old : is_among functions.names y ≡ true → slice_get (functions.signatures ++ s ∷ []) place ≡ Some t → HasFunction table (suc k) place t
    by_old known h =
        let same = place_front functions.names (x ∷ []) y known in
        let below = place_below functions.names y known in
        let low : place_of functions.names y < length functions.signatures = omega (arith, below, names, signatures) in
        let here : slice_get functions.signatures (place_of functions.names y) ≡ Some t =
        sym (get_front functions.signatures (s ∷ []) (place_of functions.names y) s low) ∙ ap (slice_get (functions.signatures ++ s ∷ [])) (sym same) ∙ h
        in
        let found : signature_of functions y ≡ Some t =
        ap (λ among. if among then slice_get functions.signatures (place_of functions.names y) else None) known ∙ here
        in
        subst (λ f. HasFunction table (suc k) f t) (sym same) (has_more (has y t found))

    by_new : x ≡ y → slice_get (functions.signatures ++ s ∷ []) place ≡ Some t → HasFunction table (suc k) place t
    by_new same h =
        let at : place ≡ k = ap (place_of (functions.names ++ x ∷ [])) (sym same) ∙ place_last functions.names x none ∙ names in
        let is_own : Some s ≡ Some t = sym (get_last functions.signatures s) ∙ ap (slice_get (functions.signatures ++ s ∷ [])) (signatures ∙ sym at) ∙ h in
        subst (λ f. HasFunction table (suc k) f t) (sym at) (subst (HasFunction table (suc k) k) (same_Some s t is_own) own)

    by_cases : (is_among functions.names y ≡ true) ⊎ (x ≡ y) → slice_get (functions.signatures ++ s ∷ []) place ≡ Some t → HasFunction table (suc k) place t
    by_cases (inl known) h = by_old known h
    by_cases (inr same) h = by_new same h

    by_among : (among : Bool) → is_among (functions.names ++ x ∷ []) y ≡ among
        → (if among then slice_get (functions.signatures ++ s ∷ []) place else None) ≡ Some t → HasFunction table (suc k) place t
    by_among true e h = by_cases (among_cases functions.names x y e) h
    by_among false e h = absurd (none-some t h)

-- ── Where a function begins ──

pub first_ready : (shown : Places) (others : ℕ) → others ≤ 15 → Ready shown (no_names others)
first_ready shown others few = record {
  sound = λ x seen. absurd (false≢true seen);
  sees = λ x seen. absurd (false≢true seen);
  long = refl;
  few = omega (arith, few);
}

parameters_ready : (shown : Places) (scope : Scope) (xs : List Named) → Ready shown scope
    → ((y : ℕ) → y < length (behind_parameters scope xs).declared → IsTrue (shown y)) → parameters_faults scope xs ≡ []
    → Ready shown (behind_parameters scope xs)
parameters_ready shown scope [] ready all clean = ready
parameters_ready shown scope (x ∷ more) ready all clean =
    let faultless = both_none (name_faults scope x None) (parameters_faults (declare scope x.bytes false) more) clean in
    let names = with_variable scope.others scope.declared x.bytes in
    let known = declared_known scope x None faultless.0 in
    let below = place_below names x.bytes known in
    let grown = parameters_keep _ (count_kept (length names)) (declare scope x.bytes false) more (omega arith) in
    let own = all (place_of names x.bytes) (omega (arith, below, grown)) in
    parameters_ready shown (declare scope x.bytes false) more
    (declared_ready shown shown scope x None false ready (λ y h. h) faultless.0 own) all faultless.1

or_left : (a b : Bool) → a ≡ true → IsTrue (a || b)
or_left a b is = ap (λ c. c || b) is

or_right : (a b : Bool) → IsTrue b → IsTrue (a || b)
or_right true b is = refl
or_right false b is = is

-- the places at which a list says true
among_places : (n : ℕ) (xs : List Bool) (y : ℕ) → IsTrue (slice_index_or xs y false) → IsTrue (among (places_from n xs) (n + y))
among_places n [] y h = absurd (false≢true h)
among_places n (true ∷ more) zero h = or_left (nat_eq (n + 0) n) _ ((Decides-eqb (n + 0) n).1 (omega arith))
among_places n (false ∷ more) zero h = absurd (false≢true h)
among_places n (true ∷ more) (suc y) h =
    let e : n + 1 + y ≡ n + suc y = omega arith in
    or_right (nat_eq (n + suc y) n) _ (subst (λ i. IsTrue (among (places_from (n + 1) more) i)) e (among_places (n + 1) more y h))
among_places n (false ∷ more) (suc y) h =
    let e : n + 1 + y ≡ n + suc y = omega arith in
    subst (λ i. IsTrue (among (places_from (n + 1) more) i)) e (among_places (n + 1) more y h)

places_true : (n : ℕ) (xs : List Bool) (y : ℕ) → IsTrue (among (places_from n xs) y) → (i : ℕ) × (y ≡ n + i) × IsTrue (slice_index_or xs i false)
places_true n [] y h = absurd (false≢true h)
places_true n (true ∷ more) y h =
    let later : IsTrue (among (places_from (n + 1) more) y) → (i : ℕ) × (y ≡ n + 1 + i) × IsTrue (slice_index_or more i false) =
    λ k. places_true (n + 1) more y k
    in
    by_same later (nat_eq y n) refl h
  where
    by_same : (IsTrue (among (places_from (n + 1) more) y) → (i : ℕ) × (y ≡ n + 1 + i) × IsTrue (slice_index_or more i false))
        → (same : Bool) → nat_eq y n ≡ same → (same || among (places_from (n + 1) more) y) ≡ true
        → (i : ℕ) × (y ≡ n + i) × IsTrue (slice_index_or (true ∷ more) i false)
    by_same later true e h = let is = (Decides-eqb y n).0 e in (0, omega (arith, is), refl)
    by_same later false e h = let rest = later h in (suc rest.0, omega (arith, rest.1), rest.2)
places_true n (false ∷ more) y h = let rest = places_true (n + 1) more y h in (suc rest.0, omega (arith, rest.1), rest.2)

-- ── One function ──

pub record IsGood (table : Table) (k : ℕ) : Type 0 where
  pub closes : Closes table k (table k).valued (table k).body
  pub set : AreSet table (table k).vars (given (table k)) (table k).body
  pub params : (table k).params ≤ (table k).vars
  pub free : (y : ℕ) → IsTrue (among (table k).free y) → y < (table k).vars

-- no parameter is a variable without initialiser
pub none_free : (y : ℕ) → IsTrue (slice_index_or (replicate 16 false) y false) → y < 0
none_free y h = absurd (false≢true (sym (by_low (nat_lt y 16) refl) ∙ h))
  where
    by_low : (low : Bool) → nat_lt y 16 ≡ low → slice_index_or (replicate 16 false) y false ≡ false
    by_low true e = get_or-replicate 16 y false false (ltb-true _ _ e)
    by_low false e = let apart : ¬ (y < 16) = λ lt. false≢true (sym e ∙ lt-ltb y 16 lt) in get_or_past (replicate 16 false) y false (omega (arith, apart))

-- the routine of a function
module _ (table : Table) (k base : ℕ) (functions : Functions) (others : ℕ) (tree : Function) (f : Func) where
  abbrev found : Walked
  found = function_walked functions others tree

  function_good : table k ≡ routine base f → HasFunctions table k functions → others ≤ 15 → IsRow functions others tree f
      → function_faults functions others tree ≡ [] → IsGood table k × HasFunction table (suc k) k (signature others tree) × AreSorted (length f.names) (commands f.body)
  function_good is has few row clean =
      let own = parameters_of tree.parameters in
      let c = at_top functions (body_of tree.valued) in
      let start = entered others tree in
      let missing = missing_faults tree.valued (items_return tree.items) tree.behind in
      let behind_name = both_none (twice_faults functions tree.name) (parameters_faults (no_names others) own ++ (found.faults ++ missing)) clean in
      let behind_all = both_none (parameters_faults (no_names others) own) (found.faults ++ missing) behind_name.1 in
      let last = both_none found.faults missing behind_all.1 in
      let vars : (table k).vars ≡ length found.scope.declared = ap (λ (r : Routine). r.vars) is ∙ ap length row.names in
      let params : (table k).params ≡ length start.declared = ap (λ (r : Routine). r.params) is ∙ row.params in
      let free : (table k).free ≡ places_from 0 found.scope.free = ap (λ (r : Routine). r.free) is ∙ ap (places_from 0) row.free in
      let body : (table k).body ≡ of_list found.body = ap (λ (r : Routine). r.body) is ∙ row.body in
      let closed = items_closes table k tree.valued c has (refl, refl, refl) start tree.items last.0 (none_missing tree.valued (items_return tree.items) tree.behind last.1) in
      let gives : (table k).valued ≡ tree.valued =
      ap (λ (r : Routine). r.valued) is ∙ ap gives_value row.body ∙ closes_gives table k tree.valued (of_list found.body) closed
      in
      let shown = given (table k) in
      let grown = items_keep c _ (count_kept (length start.declared)) start tree.items (omega arith) in
      let sees = λ (y : ℕ) (low : y < length start.declared).
      or_left (nat_lt y (table k).params) (among (table k).free y) (lt-ltb y (table k).params (omega (arith, low, params))) in
      let frees = λ (y : ℕ) (h : IsTrue (slice_index_or found.scope.free y false)).
      let same : 0 + y ≡ y = omega arith in
      or_right (nat_lt y (table k).params) (among (table k).free y)
      (subst (λ l. IsTrue (among l y)) (sym free) (subst (λ i. IsTrue (among (places_from 0 found.scope.free) i)) same (among_places 0 found.scope.free y h))) in
      let ready = parameters_ready shown (no_names others) own (first_ready shown others few) sees behind_all.0 in
      let within : length found.scope.declared ≤ (table k).vars = omega (arith, vars) in
      let set = items_set table k (table k).vars found.scope.free c has shown start ready frees tree.items (within, λ y h. h) last.0 in
      let below = items_keep c FreeBelow free_below_kept start tree.items (parameters_keep FreeBelow free_below_kept (no_names others) own none_free) in
      let sorted = items_valid c (length found.scope.declared) start ready.sound tree.items (omega arith) last.0 in (
        record {
          closes =
              subst (λ v. Closes table k v (table k).body) (sym gives)
              (subst (λ b. Closes table k tree.valued b) (sym body) closed);
          set = subst (λ b. AreSet table (table k).vars shown b) (sym body) set;
          params = omega (arith, params, vars, grown);
          free = λ y h.
              let at = places_true 0 found.scope.free y (subst (λ l. IsTrue (among l y)) free h) in
              let low = below at.0 at.2 in
              omega (arith, at.1, low, vars);
        },
        record { below = omega arith; params = params; valued = gives },
        subst (λ b. AreSorted (length f.names) b) (sym row.body) (subst (λ n. AreSorted n (of_list found.body)) (ap length (sym row.names)) sorted),
      )

-- ── All functions ──

abbrev pub AllSorted : List Func → Type 0
AllSorted [] = Unit {0}
AllSorted (f ∷ more) = AreSorted (length f.names) (commands f.body) × AllSorted more

-- those from the number `k` on
pub record AreGood (table : Table) (k : ℕ) (functions : Functions) (others : ℕ) (trees : List Function) (funcs : List Func) : Type 0 where
  pub good : (j : ℕ) → k ≤ j → j < k + length funcs → IsGood table j
  pub has : HasFunctions table (k + length funcs) (known_behind functions others trees)
  pub names : length (known_behind functions others trees).names ≡ k + length funcs
  pub counts : variables_behind functions others trees ≡ others + vars_of funcs
  pub sorted : AllSorted funcs

pub all_good : (table : Table) (k base : ℕ) (functions : Functions) (others : ℕ) (trees : List Function) (funcs : List Func) (main : Routine)
    → ((j : ℕ) → j < length funcs → table (k + j) ≡ table_from base funcs main j) → HasFunctions table k functions
    → length functions.names ≡ k → length functions.signatures ≡ k → others ≤ 15 → AreRows functions others trees funcs
    → functions_faults functions others trees ≡ [] → AreGood table k functions others trees funcs
all_good table k base functions others [] [] main is has names signatures few rows clean =
    let none : k ≡ k + 0 = omega arith in
    record {
      good = λ j low high. absurd (omega (arith, low, high));
      has = subst (λ n. HasFunctions table n functions) none has;
      names = omega (arith, names);
      counts = omega arith;
      sorted = tt;
    }
all_good table k base functions others [] (f ∷ rest) main is has names signatures few rows clean = absurd rows
all_good table k base functions others (tree ∷ more) [] main is has names signatures few rows clean = absurd rows
all_good table k base functions others (tree ∷ more) (f ∷ rest) main is has names signatures few rows clean =
    let next = functions_behind functions others tree in
    let behind = others_behind functions others tree in
    let s = signature others tree in
    let faultless = both_none (function_faults functions others tree) (functions_faults next behind more) clean in
    let here : k ≡ k + 0 = omega arith in
    let own : table k ≡ routine base f = ap table here ∙ is 0 (omega arith) in
    let one = function_good table k base functions others tree f own has few rows.0 faultless.0 in
    let new = twice_none functions tree.name (both_none (twice_faults functions tree.name) _ faultless.0).0 in
    let known : next ≡ pushed functions tree.name.bytes s = with_new functions tree.name.bytes s new in
    let later =
    all_good table (suc k) (base + length f.names) next behind more rest main
    (λ j low. let at : suc k + j ≡ k + suc j = omega arith in ap table at ∙ is (suc j) (omega (arith, low)))
    (subst (HasFunctions table (suc k)) (sym known) (has_next table k functions tree.name.bytes s has new names signatures one.1))
    (ap (λ (fs : Functions). length fs.names) known ∙ omega (arith, names, length-append functions.names (tree.name.bytes ∷ [])))
    (ap (λ (fs : Functions). length fs.signatures) known ∙ omega (arith, signatures, length-append functions.signatures (s ∷ [])))
    (others_few functions others few tree) rows.1 faultless.1
    in
    let all : suc k + length rest ≡ k + length (f ∷ rest) = omega arith in
    record {
      good = λ j low high. by_place one.0 later.good j low high (nat_eq j k) refl;
      has = subst (λ n. HasFunctions table n (known_behind next behind more)) all later.has;
      names = later.names ∙ all;
      counts = omega (arith, later.counts, ap length rows.0.names);
      sorted = (one.2, later.sorted);
    }
  where
    by_place : IsGood table k → ((j : ℕ) → suc k ≤ j → j < suc k + length rest → IsGood table j) → (j : ℕ) → k ≤ j → j < k + length (f ∷ rest)
        → (same : Bool) → nat_eq j k ≡ same → IsGood table j
    by_place first later j low high true e = subst (IsGood table) (sym ((Decides-eqb j k).0 e)) first
    by_place first later j low high false e =
        let apart : j ≢ k = λ same. false≢true (sym e ∙ (Decides-eqb j k).1 same) in
        later j (omega (arith, low, apart)) (omega (arith, high))
