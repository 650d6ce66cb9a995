-- The places of the variables of a unit's routines, which lie one behind the other.
use Rattle.std.proofs.Common.{◌≡◌, ℕ, zero, suc, ◌+◌, ◌<◌, ◌≤◌, List, [], ◌∷◌, ◌++◌, length, refl, ap, ◌∙◌, arith}
use Rattle.std.proofs.lemmas.List.{length-append, length-map}
use Rattle.call_meaning.specs.declared.statement.Func.{Func}
use Rattle.call_meaning.specs.Tables.{table_from, qualified, all_qualified, whole_names}
use Rattle.call_meaning.specs.Units.{Routine}

-- how many variables functions have
abbrev pub vars_of : List Func → ℕ
vars_of [] = 0
vars_of (f ∷ more) = length f.names + vars_of more

names_counted : (func_names : List (List ℕ)) (funcs : List Func) → length func_names ≡ length funcs → length (all_qualified func_names funcs) ≡ vars_of funcs
names_counted [] [] e = refl
names_counted [] (f ∷ more) e = absurd (omega (arith, e))
names_counted (name ∷ others) [] e = absurd (omega (arith, e))
names_counted (name ∷ others) (f ∷ more) e =
    omega (
      arith,
      length-append (qualified name f.names) (all_qualified others more),
      length-map f.names (λ own. name ++ 46 ∷ own),
      names_counted others more (omega (arith, e)),
    )

pub whole_counted : (func_names : List (List ℕ)) (funcs : List Func) (names : List (List ℕ)) → length func_names ≡ length funcs
    → length (whole_names func_names funcs names) ≡ length names + vars_of funcs
whole_counted func_names funcs names named =
    length-append names (all_qualified func_names funcs) ∙ ap (λ n. length names + n) (names_counted func_names funcs named)

-- behind the functions stands `main`
pub past : (base : ℕ) (funcs : List Func) (main : Routine) (f : ℕ) → length funcs ≤ f → table_from base funcs main f ≡ main
past base [] main f high = refl
past base (x ∷ more) main zero high = absurd (omega (arith, high))
past base (x ∷ more) main (suc f) high = past (base + length x.names) more main f (omega (arith, high))

pub fits : (base : ℕ) (funcs : List Func) (main : Routine) (f : ℕ) → f < length funcs
    → (table_from base funcs main f).base + (table_from base funcs main f).vars ≤ base + vars_of funcs
fits base [] main f low = absurd (omega (arith, low))
fits base (x ∷ more) main zero low = omega arith
fits base (x ∷ more) main (suc f) low = omega (arith, fits (base + length x.names) more main f (omega (arith, low)))

pub from_base : (base : ℕ) (funcs : List Func) (main : Routine) (f : ℕ) → f < length funcs → base ≤ (table_from base funcs main f).base
from_base base [] main f low = absurd (omega (arith, low))
from_base base (x ∷ more) main zero low = omega arith
from_base base (x ∷ more) main (suc f) low = omega (arith, from_base (base + length x.names) more main f (omega (arith, low)))

pub in_order : (base : ℕ) (funcs : List Func) (main : Routine) (j k : ℕ) → j < k → k < length funcs
    → (table_from base funcs main j).base + (table_from base funcs main j).vars ≤ (table_from base funcs main k).base
in_order base [] main j k less low = absurd (omega (arith, low))
in_order base (x ∷ more) main j zero less low = absurd (omega (arith, less))
in_order base (x ∷ more) main zero (suc k) less low = from_base (base + length x.names) more main k (omega (arith, low))
in_order base (x ∷ more) main (suc j) (suc k) less low = in_order (base + length x.names) more main j k (omega (arith, less)) (omega (arith, low))
