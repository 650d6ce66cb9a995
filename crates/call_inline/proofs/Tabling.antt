-- The routines of a unit, one by one.
use Rattle.std.proofs.Common.{◌≡◌, ◌≢◌, ℕ, zero, suc, ◌+◌, ◌<◌, ◌≤◌, List, [], ◌∷◌, ◌++◌, length, length-append, slice_index_or, take, Some, inl, inr, refl, sym, ap, ◌∙◌, add-one, arith}
use Rattle.std.proofs.lemmas.Bool.Decides.{eqb_tells}
use Rattle.std.proofs.lemmas.List.{length-map}
use Rattle.std.proofs.Math.ListN.{get_or-append}
use Rattle.std.proofs.Math.Seq.{get_or-append_seam}
use Rattle.std.specs.List.{slice_get}
use Rattle.call_meaning.specs.declared.statement.Func.{Func}
use Rattle.call_meaning.specs.Tables.{commands, routine, table_from, qualified, all_qualified, whole_names}
use Rattle.call_meaning.specs.Units.{Routine}

-- a function is found where it stands, and its routine is made of it
pub got : (funcs : List Func) (f : ℕ) (d : Func) → f < length funcs → slice_get funcs f ≡ Some (slice_index_or funcs f d)
got [] f d low = absurd (omega arith)
got (x ∷ more) zero d low = refl
got (x ∷ more) (suc f) d low = got more f d (omega arith)

pub found : (base : ℕ) (funcs : List Func) (main : Routine) (f : ℕ) (d : Func) → f < length funcs
    → table_from base funcs main f ≡ routine (table_from base funcs main f).base (slice_index_or funcs f d)
found base [] main f d low = absurd (omega arith)
found base (x ∷ more) main zero d low = refl
found base (x ∷ more) main (suc f) d low = found (base + length x.names) more main f d (omega arith)

pub found_body : (base : ℕ) (funcs : List Func) (main : Routine) (f : ℕ) (callee : Func) → f < length funcs → callee ≡ slice_index_or funcs f callee
    → (table_from base funcs main f).body ≡ commands callee.body
found_body base funcs main f callee low is =
    ap (λ (r : Routine). r.body) (found base funcs main f callee low) ∙ ap (λ (g : Func). commands g.body) (sym is)

-- and behind the functions stands `main`
pub past : (base : ℕ) (funcs : List Func) (main : Routine) (f : ℕ) → length funcs ≤ f → table_from base funcs main f ≡ main
past base [] main f high = refl
past base (x ∷ more) main zero high = absurd (omega arith)
past base (x ∷ more) main (suc f) high = past (base + length x.names) more main f (omega arith)

-- how many variables functions have
abbrev pub vars_of : List Func → ℕ
vars_of [] = 0
vars_of (f ∷ more) = length f.names + vars_of more

pub names_counted : (func_names : List (List ℕ)) (funcs : List Func) → length func_names ≡ length funcs → length (all_qualified func_names funcs) ≡ vars_of funcs
names_counted [] [] e = refl
names_counted [] (f ∷ more) e = absurd (omega arith)
names_counted (name ∷ others) [] e = absurd (omega arith)
names_counted (name ∷ others) (f ∷ more) e =
    let both = length-append (qualified name f.names) (all_qualified others more) in
    let one = length-map f.names (λ own. name ++ 46 ∷ own) in
    let rest = names_counted others more (omega arith) in
    omega arith

-- and the whole program
pub whole_counted : (func_names : List (List ℕ)) (funcs : List Func) (names : List (List ℕ)) → length func_names ≡ length funcs
    → length (whole_names func_names funcs names) ≡ length names + vars_of funcs
whole_counted func_names funcs names named =
    length-append names (all_qualified func_names funcs) ∙ ap (λ n. length names + n) (names_counted func_names funcs named)

pub fits : (base : ℕ) (funcs : List Func) (main : Routine) (f : ℕ) → f < length funcs
    → (table_from base funcs main f).base + (table_from base funcs main f).vars ≤ base + vars_of funcs
fits base [] main f low = absurd (omega arith)
fits base (x ∷ more) main zero low = omega arith
fits base (x ∷ more) main (suc f) low = let rest = fits (base + length x.names) more main f (omega arith) in omega arith

-- where the variables of a function begin
pub based : (base : ℕ) (funcs : List Func) (main : Routine) (f : ℕ) → f < length funcs → (table_from base funcs main f).base ≡ base + vars_of (take f funcs)
based base [] main f low = absurd (omega arith)
based base (x ∷ more) main zero low = omega arith
based base (x ∷ more) main (suc f) low = let rest = based (base + length x.names) more main f (omega arith) in omega arith

vars_up : (funcs : List Func) (i : ℕ) (d : Func) → i < length funcs → vars_of (take (suc i) funcs) ≡ vars_of (take i funcs) + length (slice_index_or funcs i d).names
vars_up [] i d low = absurd (omega arith)
vars_up (x ∷ more) zero d low = omega arith
vars_up (x ∷ more) (suc i) d low = let rest = vars_up more i d (omega arith) in omega arith

pub vars_more : (funcs : List Func) (i : ℕ) (f : Func) → i < length funcs → f ≡ slice_index_or funcs i f
    → vars_of (take (i + 1) funcs) ≡ vars_of (take i funcs) + length f.names
vars_more funcs i f low is =
    ap (λ k. vars_of (take k funcs)) (add-one i) ∙ vars_up funcs i f low ∙ ap (λ (g : Func). vars_of (take i funcs) + length g.names) (sym is)

pub vars_within : (funcs : List Func) (i : ℕ) → vars_of (take i funcs) ≤ vars_of funcs
vars_within [] zero = omega arith
vars_within [] (suc i) = omega arith
vars_within (x ∷ more) zero = omega arith
vars_within (x ∷ more) (suc i) = let rest = vars_within more i in omega arith

-- a list that has P below its end has it with P's next number behind
pub bases_more : (P : ℕ → ℕ) (items new : List ℕ) (n base : ℕ) → length items ≡ n → new ≡ items ++ base ∷ [] → base ≡ P n
    → ((f : ℕ) → f < n → slice_index_or items f 0 ≡ P f) → (f : ℕ) → f < n + 1 → slice_index_or new f 0 ≡ P f
bases_more P items new n base long pushed is before f high =
    ap (λ l. slice_index_or l f 0) pushed
    ∙ elim (eqb_tells f n) [
      | inl same ↦ ap (λ k. slice_index_or (items ++ base ∷ []) k 0) (same.1 ∙ sym long) ∙ get_or-append_seam items base [] 0 ∙ is ∙ sym (ap P same.1)
      | inr other ↦ (let apart : f ≢ n = other.1 in get_or-append items (base ∷ []) 0 f (omega arith) ∙ before f (omega arith))
    ]
