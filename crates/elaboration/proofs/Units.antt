-- What a tree without faults stands for is a unit, where no name has a dot in it.
use Rattle.std.proofs.Common.{◌≡◌, ◌≢◌, ℕ, zero, suc, ◌+◌, ◌<◌, ◌≤◌, Bool, true, false, nat_lt, IsTrue, List, [], ◌∷◌, ◌++◌, length, slice_index_or, All, AllPairs, refl, sym, ap, ◌∙◌, subst, arith, if◌then◌else◌}
use Rattle.std.proofs.lemmas.Bool.{false≢true, true≢false, ltb-true, lt-ltb}
use Rattle.std.proofs.lemmas.List.Quantifiers.{all_pairs_push}
use Rattle.std.proofs.lemmas.Option.{none-some}
use Rattle.source_lex.specs.declared.token.Token.{Token}
use Rattle.call_meaning.specs.declared.statement.Func.{Func}
use Rattle.call_meaning.specs.declared.statement.UnitBlock.{UnitBlock}
use Rattle.call_meaning.specs.Reads.{AreSet, all_of, IsTidy}
use Rattle.call_meaning.specs.Sorts.{AreSorted, HaveNoValue}
use Rattle.call_meaning.specs.Tables.{commands, main_routine, table_of}
use Rattle.call_meaning.specs.Units.{of_list, Routine, Table}
use Rattle.call_meaning.specs.Valid.{IsUnit}
use Rattle.call_meaning.specs.Validity.{AllStand}
use Rattle.concrete_syntax.specs.Trees.{Function, Program}
use Rattle.elaboration.specs.declared.context.Body.TheVariants.{Main}
use Rattle.elaboration.specs.declared.functions.Signature.{Signature}
use Rattle.elaboration.specs.Contexts.{Context, at_top, body_of}
use Rattle.elaboration.specs.Elaborates.{parameters_of, entered, functions_behind, others_behind, known_behind, variables_behind, signature, functions_faults, known, walked, names_of, StandsForUnit}
use Rattle.elaboration.specs.Functions.{Functions, no_functions, with_function}
use Rattle.typed_expressions.specs.Scopes.{Name, is_among, no_names}
use Rattle.elaboration.proofs.Apart.{Each, HasNoDot, whole_apart}
use Rattle.elaboration.proofs.Behind.{variables_few}
use Rattle.elaboration.proofs.Bodies.{items_valid}
use Rattle.elaboration.proofs.Declared.{distinct_kept, items_keep, parameters_keep}
use Rattle.elaboration.proofs.Jumps.{HasFunctions, items_inside}
use Rattle.typed_expressions.proofs.Names.{differs}
use Rattle.elaboration.proofs.Routines.{AreRows, AllSorted, AreGood, rows_of, all_good, first_ready, none_free}
use Rattle.elaboration.proofs.Setting.{FreeBelow, free_below_kept, items_set}
use Rattle.elaboration.proofs.Tabled.{vars_of, whole_counted, past, fits, from_base, in_order}
use Rattle.typed_expressions.proofs.Valid.{both_none}
use Rattle.elaboration.proofs.Valueless.{items_valueless}
use Rattle.elaboration.proofs.Whole.{all_few, names_are_apart, nothing_sound}

-- no two functions have one name
with_apart : (functions : Functions) (x : Name) → AllPairs (λ a b. a ≢ b) functions.names → (s : Signature)
    → AllPairs (λ a b. a ≢ b) (with_function functions x s).names
with_apart functions x apart s = by_known (is_among functions.names x) refl
  where
    by_known : (among : Bool) → is_among functions.names x ≡ among
        → AllPairs (λ a b. a ≢ b) (if among then functions else record { names = functions.names ++ x ∷ []; signatures = functions.signatures ++ s ∷ [] }).names
    by_known true e = apart
    by_known false e = all_pairs_push (λ a b. a ≢ b) functions.names x apart (λ k d within. differs functions.names x k d e within)

known_apart : (functions : Functions) (others : ℕ) (trees : List Function) → AllPairs (λ a b. a ≢ b) functions.names
    → AllPairs (λ a b. a ≢ b) (known_behind functions others trees).names
known_apart functions others [] apart = apart
known_apart functions others (tree ∷ more) apart =
    known_apart (functions_behind functions others tree) (others_behind functions others tree) more
    (with_apart functions tree.name.bytes apart (signature others tree))

-- no two variables of a function have one name
rows_apart : (functions : Functions) (others : ℕ) (trees : List Function) (funcs : List Func) → AreRows functions others trees funcs
    → Each (λ f. AllPairs (λ a b. a ≢ b) f.names) funcs
rows_apart functions others [] [] rows = tt
rows_apart functions others [] (f ∷ rest) rows = absurd rows
rows_apart functions others (tree ∷ more) [] rows = absurd rows
rows_apart functions others (tree ∷ more) (f ∷ rest) rows = (
  subst (λ (xs : List Name). AllPairs (λ a b. a ≢ b) xs) (sym rows.0.names)
      (items_keep (at_top functions (body_of tree.valued)) _ distinct_kept (entered others tree) tree.items
      (parameters_keep _ distinct_kept (no_names others) (parameters_of tree.parameters) (λ i j d lt within. absurd (omega (arith, within))))),
  rows_apart (functions_behind functions others tree) (others_behind functions others tree) more rest rows.1,
)

sorted_all : (funcs : List Func) → AllSorted funcs → All (λ f. AreSorted (length f.names) (commands f.body)) funcs
sorted_all [] all k d low = absurd (omega (arith, low))
sorted_all (f ∷ more) all zero d low = all.0
sorted_all (f ∷ more) all (suc k) d low = sorted_all more all.1 k d (omega (arith, low))

module _ (tokens : List Token) (p : Program) (func_names : List Name) (funcs : List Func) (names : List Name) (body : UnitBlock)
    (is : StandsForUnit tokens p func_names funcs names body) where
  abbrev main : Routine
  main = main_routine names body

  abbrev table : Table
  table = table_of funcs names body

  abbrev n : ℕ
  n = length funcs

  abbrev before : ℕ
  before = variables_behind no_functions 0 p.functions

  abbrev around : Context
  around = at_top (known p) Main

  clean : (functions_faults no_functions 0 p.functions ≡ []) × ((walked p).faults ≡ [])
  clean = both_none (functions_faults no_functions 0 p.functions) (walked p).faults is.faultless

  rows : AreRows no_functions 0 p.functions funcs
  rows = rows_of tokens no_functions 0 p.functions funcs is.functions

  are : AreGood table 0 no_functions 0 p.functions funcs
  are =
      all_good table 0 (length names) no_functions 0 p.functions funcs main (λ j low. let at : 0 + j ≡ j = omega arith in ap table at) (λ x s found. absurd (none-some s found)) refl refl
      (omega arith) rows clean.0

  named : length func_names ≡ n
  named = ap length is.knows ∙ omega (arith, are.names)

  has : HasFunctions table n (known p)
  has = let all : 0 + n ≡ n = omega arith in subst (λ k. HasFunctions table k (known p)) all are.has

  total : length names + vars_of funcs ≤ 15
  total = omega (arith, all_few p, are.counts, ap length is.declares)

  main_is : table n ≡ main
  main_is = past (length names) funcs main n (omega arith)

  main_vars : (table n).vars ≡ length (names_of p)
  main_vars = ap (λ (r : Routine). r.vars) main_is ∙ ap length is.declares

  main_body : (table n).body ≡ of_list (walked p).body
  main_body = ap (λ (r : Routine). r.body) main_is ∙ is.means

  few_before : before ≤ 15
  few_before = variables_few no_functions 0 (omega arith) p.functions

  stand : AllStand table n true false (table n).body
  stand = subst (AllStand table n true false) (sym main_body) (items_inside table n true around (λ e. absurd (true≢false e)) has (no_names before) p.items clean.1)

  frees : (y : ℕ) → IsTrue (slice_index_or (walked p).scope.free y false) → IsTrue (all_of (table n) y)
  frees y h =
      let below = items_keep around FreeBelow free_below_kept (no_names before) p.items none_free y h in
      lt-ltb y (table n).vars (omega (arith, below, main_vars))

  set : AreSet table (table n).vars (all_of (table n)) (table n).body
  set =
      subst (AreSet table (table n).vars (all_of (table n))) (sym main_body)
      (items_set table n (table n).vars (walked p).scope.free around has (all_of (table n)) (no_names before) (first_ready (all_of (table n)) before few_before)
      frees p.items (omega (arith, main_vars), λ y h. h) clean.1)

  -- the variables of routines are apart
  ordered : (j k : ℕ) → j < k → k ≤ n → (x y : ℕ) → x < (table j).vars → y < (table k).vars → (table j).base + x ≢ (table k).base + y
  ordered j k less low x y one other same = by_main (nat_lt k n) refl
    where
      by_main : (inside : Bool) → nat_lt k n ≡ inside → ⊥
      by_main true e = let apart = in_order (length names) funcs main j k less (ltb-true _ _ e) in omega (arith, apart, one, same)
      by_main false e =
          let past_all : ¬ (k < n) = λ lt. false≢true (sym e ∙ lt-ltb k n lt) in
          let last : k ≡ n = omega (arith, low, past_all) in
          let whole : table k ≡ main = ap table last ∙ main_is in
          let far = from_base (length names) funcs main j (omega (arith, less, last)) in
          omega (arith, far, same, other, ap (λ (r : Routine). r.base) whole, ap (λ (r : Routine). r.vars) whole)

  room : (k : ℕ) → k ≤ n → (table k).base + (table k).vars ≤ 16
  room k low = by_main (nat_lt k n) refl
    where
      by_main : (inside : Bool) → nat_lt k n ≡ inside → (table k).base + (table k).vars ≤ 16
      by_main true e = omega (arith, fits (length names) funcs main k (ltb-true _ _ e), total)
      by_main false e =
          let past_all : ¬ (k < n) = λ lt. false≢true (sym e ∙ lt-ltb k n lt) in
          let last : k ≡ n = omega (arith, low, past_all) in
          let whole : table k ≡ main = ap table last ∙ main_is in
          omega (arith, total, ap (λ (r : Routine). r.base) whole, ap (λ (r : Routine). r.vars) whole)

  tidy : IsTidy table n
  tidy = record {
    functions = λ k low. (are.good k (omega arith) (omega (arith, low))).set;
    whole = set;
    params = λ k low. (are.good k (omega arith) (omega (arith, low))).params;
    free = λ k low. (are.good k (omega arith) (omega (arith, low))).free;
    first = ap (λ (r : Routine). r.base) main_is;
    room = room;
    apart = λ j k one other apart x y inside there same. by_order j k one other apart x y inside there same (nat_lt j k) refl;
  }
    where
      by_order : (j k : ℕ) → j ≤ n → k ≤ n → j ≢ k → (x y : ℕ) → x < (table j).vars → y < (table k).vars → (table j).base + x ≡ (table k).base + y
          → (less : Bool) → nat_lt j k ≡ less → ⊥
      by_order j k one other apart x y inside there same true e = ordered j k (ltb-true _ _ e) other x y inside there same
      by_order j k one other apart x y inside there same false e =
          let above : ¬ (j < k) = λ lt. false≢true (sym e ∙ lt-ltb j k lt) in
          ordered k j (omega (arith, above, apart)) one y x there inside (sym same)

  main_sorted : AreSorted (length names) (commands body)
  main_sorted =
      let vars = length (names_of p) in
      let sorted = items_valid around vars (no_names before) (nothing_sound before) p.items (omega arith) clean.1 in
      subst (AreSorted (length names)) (sym is.means) (subst (λ (xs : List Name). AreSorted (length xs) (of_list (walked p).body)) (sym is.declares) sorted)

  pub valid_unit : All HasNoDot func_names → All HasNoDot names → IsUnit func_names funcs names body
  valid_unit dotless plain = record {
    named = named;
    few = omega (arith, whole_counted func_names funcs names named, total);
    distinct =
        whole_apart func_names funcs names
        (subst (λ (xs : List Name). AllPairs (λ a b. a ≢ b) xs) (sym is.knows)
        (known_apart no_functions 0 p.functions (λ i j d lt within. absurd (omega (arith, within)))))
        dotless (rows_apart no_functions 0 p.functions funcs rows)
        (subst (λ (xs : List Name). AllPairs (λ a b. a ≢ b) xs) (sym is.declares) (names_are_apart p)) plain;
    sorted = sorted_all funcs are.sorted;
    main_sorted = main_sorted;
    valueless = subst HaveNoValue (sym is.means) (items_valueless around refl (no_names before) p.items);
    routines = record { functions = λ k low. (are.good k (omega arith) (omega (arith, low))).closes; whole = stand };
    tidy = tidy;
  }
