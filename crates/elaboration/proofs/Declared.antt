-- What is true of the declared names whatever is declared.
use Rattle.std.proofs.Common.{◌≡◌, ◌≢◌, ℕ, ◌+◌, ◌≤◌, Bool, true, false, ◌&&◌, nat_lt, List, [], ◌∷◌, ◌++◌, length, slice_set, refl, arith, if◌then◌else◌, AllPairs}
use Rattle.std.proofs.lemmas.Bool.{ltb-true}
use Rattle.std.proofs.lemmas.List.{length-append}
use Rattle.std.proofs.lemmas.List.Quantifiers.{all_pairs_push}
use Rattle.concrete_syntax.specs.Trees.{Name as Named, Part, Statement, statement_at, simple, calls, gives, skip, braces, conditional, while_loop, do_loop, for_loop, return, break, continue, Otherwise, without, otherwise, Items, none, declaration, statement, Start, starts_with_nothing, starts_with, declares}
use Rattle.elaboration.specs.Contexts.{Context, deeper, looping}
use Rattle.elaboration.specs.Guards.{around_statement, around_rest}
use Rattle.elaboration.specs.Elaborates.{behind_parameters}
use Rattle.typed_expressions.specs.Scopes.{Scope, Name, is_among, place_of, with_variable, most_variables, declare}
use Rattle.elaboration.specs.Statements.{part_walked, parts_walked, declaration_walked, statement_walked, otherwise_walked, items_walked, start_walked}
use Rattle.typed_expressions.proofs.Names.{among_front, differs}

-- a predicate on how many variables others have, the names of variables, and which are declared without initialiser
abbrev pub OnNames : Type 1
OnNames = ℕ → List Name → List Bool → Type 0

abbrev pub Over : OnNames → Scope → Type 0
Over P scope = P scope.others scope.declared scope.free

-- one that a declaration keeps
abbrev pub IsKept : OnNames → Type 0
IsKept P =
    (others : ℕ) (names : List Name) (free : List Bool) (x : Name) (bare : Bool) → P others names free
    → P others (with_variable others names x)
    (if bare && is_among (with_variable others names x) x then slice_set free (place_of (with_variable others names x) x) true else free)

-- is kept by all that declares
pub parameters_keep : (P : OnNames) → IsKept P → (scope : Scope) (xs : List Named) → Over P scope → Over P (behind_parameters scope xs)
parameters_keep P kept scope [] h = h
parameters_keep P kept scope (x ∷ more) h = parameters_keep P kept (declare scope x.bytes false) more (kept scope.others scope.declared scope.free x.bytes false h)

pub parts_keep : (c : Context) (P : OnNames) → IsKept P → (scope : Scope) (parts : List Part) → Over P scope → Over P (parts_walked c scope parts).scope
parts_keep c P kept scope [] h = h
parts_keep c P kept scope (part ∷ more) h =
    parts_keep c P kept (part_walked c scope part).scope more (kept scope.others scope.declared scope.free part.declared.bytes _ h)

pub start_keeps : (c : Context) (P : OnNames) → IsKept P → (scope : Scope) (start : Start) → Over P scope → Over P (start_walked c scope start).scope
start_keeps c P kept scope starts_with_nothing h = h
start_keeps c P kept scope (starts_with s) h = h
start_keeps c P kept scope (declares d) h = parts_keep c P kept scope (d.part ∷ d.more) h

mutual
  pub statement_keeps : (c : Context) (P : OnNames) → IsKept P → (scope : Scope) (s : Statement) → Over P scope → Over P (statement_walked c scope s).scope
  statement_keeps c P kept scope (statement_at at (simple s)) h = h
  statement_keeps c P kept scope (statement_at at (calls call)) h = h
  statement_keeps c P kept scope (statement_at at (gives x call)) h = h
  statement_keeps c P kept scope (statement_at at skip) h = h
  statement_keeps c P kept scope (statement_at at (braces all)) h = items_keep (deeper c) P kept scope all h
  statement_keeps c P kept scope (statement_at at (conditional test part other)) h =
      otherwise_keeps (deeper c) P kept (statement_walked (deeper c) scope part).scope other (statement_keeps (deeper c) P kept scope part h)
  statement_keeps c P kept scope (statement_at at (while_loop test body)) h = statement_keeps (looping c) P kept scope body h
  statement_keeps c P kept scope (statement_at at (do_loop body end test)) h = statement_keeps (looping c) P kept scope body h
  statement_keeps c P kept scope (statement_at at (for_loop start test step body)) h =
      statement_keeps (looping c) P kept (start_walked (deeper c) scope start).scope body (start_keeps (deeper c) P kept scope start h)
  statement_keeps c P kept scope (statement_at at (return value)) h = h
  statement_keeps c P kept scope (statement_at at break) h = h
  statement_keeps c P kept scope (statement_at at continue) h = h

  pub otherwise_keeps : (c : Context) (P : OnNames) → IsKept P → (scope : Scope) (other : Otherwise) → Over P scope → Over P (otherwise_walked c scope other).scope
  otherwise_keeps c P kept scope without h = h
  otherwise_keeps c P kept scope (otherwise s) h = statement_keeps (deeper c) P kept scope s h

  pub items_keep : (c : Context) (P : OnNames) → IsKept P → (scope : Scope) (all : Items) → Over P scope → Over P (items_walked c scope all).scope
  items_keep c P kept scope none h = h
  items_keep c P kept scope (declaration d more) h =
      items_keep c P kept (declaration_walked c scope d).scope more (parts_keep c P kept scope (d.part ∷ d.more) h)
  items_keep c P kept scope (statement s more) h =
      let inner = around_statement c s more in items_keep (around_rest c s) P kept (statement_walked inner scope s).scope more (statement_keeps inner P kept scope s h)

-- a name stays a variable
pub among_with : (y : Name) (others : ℕ) (names : List Name) (x : Name) → is_among names y ≡ true → is_among (with_variable others names x) y ≡ true
among_with y others names x h = by_known (is_among names x)
  where
    by_room : (room : Bool) → is_among (if room then names ++ x ∷ [] else names) y ≡ true
    by_room true = among_front names (x ∷ []) y h
    by_room false = h

    by_known : (known : Bool)
        → is_among (if known then names else if nat_lt (others + length names) most_variables then names ++ x ∷ [] else names) y ≡ true
    by_known true = h
    by_known false = by_room (nat_lt (others + length names) most_variables)

pub among_kept : (y : Name) → IsKept (λ others names free. is_among names y ≡ true)
among_kept y others names free x bare h = among_with y others names x h

-- the variables become no fewer
pub no_fewer : (n others : ℕ) (names : List Name) (x : Name) → n ≤ length names → n ≤ length (with_variable others names x)
no_fewer n others names x h = by_known (is_among names x)
  where
    by_room : (room : Bool) → n ≤ length (if room then names ++ x ∷ [] else names)
    by_room true = omega (arith, length-append names (x ∷ []))
    by_room false = h

    by_known : (known : Bool) → n ≤ length (if known then names else if nat_lt (others + length names) most_variables then names ++ x ∷ [] else names)
    by_known true = h
    by_known false = by_room (nat_lt (others + length names) most_variables)

pub count_kept : (n : ℕ) → IsKept (λ others names free. n ≤ length names)
count_kept n others names free x bare h = no_fewer n others names x h

-- a sixteenth variable isn't added
pub few_kept : IsKept (λ others names free. others + length names ≤ 15)
few_kept others names free x bare h = by_known (is_among names x)
  where
    by_room : (room : Bool) → nat_lt (others + length names) most_variables ≡ room → others + length (if room then names ++ x ∷ [] else names) ≤ 15
    by_room true less = let below = ltb-true _ _ less in simp length-append (omega (arith, below))
    by_room false less = h

    by_known : (known : Bool)
        → others + length (if known then names else if nat_lt (others + length names) most_variables then names ++ x ∷ [] else names) ≤ 15
    by_known true = h
    by_known false = by_room (nat_lt (others + length names) most_variables) refl

-- no two variables have one name
pub distinct_kept : IsKept (λ others names free. AllPairs (λ a b. a ≢ b) names)
distinct_kept others names free x bare h = by_known (is_among names x) refl
  where
    by_room : is_among names x ≡ false → (room : Bool) → AllPairs (λ a b. a ≢ b) (if room then names ++ x ∷ [] else names)
    by_room new true = all_pairs_push (λ a b. a ≢ b) names x h (λ k d within. differs names x k d new within)
    by_room new false = h

    by_known : (known : Bool) → is_among names x ≡ known
        → AllPairs (λ a b. a ≢ b) (if known then names else if nat_lt (others + length names) most_variables then names ++ x ∷ [] else names)
    by_known true e = h
    by_known false e = by_room e (nat_lt (others + length names) most_variables)
