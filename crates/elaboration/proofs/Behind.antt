-- Functions, one behind the other.
use Rattle.std.proofs.Common.{◌≡◌, ℕ, ◌+◌, ◌≤◌, Bool, true, false, List, [], ◌∷◌, length, Option, None, Some, slice_get, refl, ap, subst, arith, if◌then◌else◌}
use Rattle.std.proofs.lemmas.Option.{none-some}
use Rattle.concrete_syntax.specs.Trees.{Function, Items}
use Rattle.call_meaning.specs.Units.{Routine, Table, empty}
use Rattle.elaboration.specs.declared.functions.Signature.{Signature}
use Rattle.elaboration.specs.Contexts.{Context, at_top, body_of}
use Rattle.elaboration.specs.Elaborates.{entered, functions_behind, others_behind, variables_behind, parameters_of}
use Rattle.elaboration.specs.Functions.{Functions}
use Rattle.typed_expressions.specs.Scopes.{Scope, is_among, place_of, no_names}
use Rattle.elaboration.specs.Statements.{items_walked}
use Rattle.elaboration.proofs.Declared.{OnNames, IsKept, Over, few_kept, items_keep, parameters_keep}
use Rattle.elaboration.proofs.Jumps.{HasFunction, HasFunctions}
use Rattle.typed_expressions.proofs.Names.{place_below}

-- the others stay as many, and all are few
abbrev FewBehind : ℕ → OnNames
FewBehind n = λ others names free. (others ≡ n) × (others + length names ≤ 15)

few_behind : (n : ℕ) → IsKept (FewBehind n)
few_behind n others names free x bare h = (h.0, few_kept others names free x bare h.1)

pub few_in : (c : Context) (others : ℕ) (scope : Scope) (all : Items) → Over (FewBehind others) scope
    → others + length (items_walked c scope all).scope.declared ≤ 15
few_in c others scope all h =
    let kept = items_keep c (FewBehind others) (few_behind others) scope all h in
    subst (λ n. n + length (items_walked c scope all).scope.declared ≤ 15) kept.0 kept.1

pub few_first : (others : ℕ) → others ≤ 15 → Over (FewBehind others) (no_names others)
few_first others few = (refl, omega (arith, few))

pub few_entered : (others : ℕ) → others ≤ 15 → (f : Function) → Over (FewBehind others) (entered others f)
few_entered others few f = parameters_keep (FewBehind others) (few_behind others) (no_names others) (parameters_of f.parameters) (few_first others few)

pub others_few : (functions : Functions) (others : ℕ) → others ≤ 15 → (f : Function) → others_behind functions others f ≤ 15
others_few functions others few f = few_in (at_top functions (body_of f.valued)) others (entered others f) f.items (few_entered others few f)

pub variables_few : (functions : Functions) (others : ℕ) → others ≤ 15 → (fs : List Function) → variables_behind functions others fs ≤ 15
variables_few functions others few [] = few
variables_few functions others few (f ∷ more) =
    variables_few (functions_behind functions others f) (others_behind functions others f) (others_few functions others few f) more

-- the table of the functions that are known
abbrev known_routine : Option Signature → Routine
known_routine (Some s) = record { base = 0; vars = 0; params = s.params; free = []; valued = s.valued; body = empty }
known_routine None = record { base = 0; vars = 0; params = 0; free = []; valued = false; body = empty }

abbrev pub known_table : Functions → Table
known_table functions = λ f. known_routine (slice_get functions.signatures f)

pub has_known : (functions : Functions) → HasFunctions (known_table functions) (length functions.names) functions
has_known functions x s is = by_known (is_among functions.names x) refl is
  where
    by_known : (known : Bool) → is_among functions.names x ≡ known
        → (if known then slice_get functions.signatures (place_of functions.names x) else None) ≡ Some s
        → HasFunction (known_table functions) (length functions.names) (place_of functions.names x) s
    by_known true e h = record {
      below = place_below functions.names x e;
      params = ap (λ found. (known_routine found).params) h;
      valued = ap (λ found. (known_routine found).valued) h;
    }
    by_known false e h = absurd (none-some s h)
