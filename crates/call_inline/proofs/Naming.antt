-- The names of the whole program, one behind the other.
use Rattle.std.proofs.Common.{◌≡◌, ℕ, ◌+◌, ◌<◌, ◌≤◌, List, [], ◌∷◌, ◌++◌, length, get_or, drop, map, vec_items, refl, sym, ap, ◌∙◌, append_assoc}
use Rattle.std.specs.Global.{Vec}
use Rattle.std.proofs.lemmas.List.{append-nil, map-append}
use Rattle.std.proofs.Math.ListN.{drop_of_length-le}
use Rattle.std.proofs.Math.Seq.{drop-length}
use Rattle.call_meaning.specs.declared.statement.Func.{Func}
use Rattle.call_meaning.specs.Tables.{qualified, all_qualified}
use Rattle.call_inline.proofs.Deepest.{drop_here}

-- each name behind some bytes
abbrev pub behind_all : List ℕ → List (List ℕ) → List (List ℕ)
behind_all before names = map (λ name. before ++ name) names

-- one name more
pub name_added : (before : List ℕ) (list next names : List (Vec ℕ)) (i : ℕ) (name made : Vec ℕ) → i < length names → name ≡ get_or names i name
    → next ≡ list ++ made ∷ [] → made.items ≡ before ++ name.items
    → map vec_items next ++ behind_all before (map vec_items (drop (i + 1) names)) ≡ map vec_items list ++ behind_all before (map vec_items (drop i names))
name_added before list next names i name made low is pushed joined =
    let rest = behind_all before (map vec_items (drop (i + 1) names)) in
    ap (λ l. map vec_items l ++ rest) pushed
    ∙ ap (λ l. l ++ rest) (map-append vec_items list (made ∷ []))
    ∙ append_assoc (map vec_items list) (made.items ∷ []) rest
    ∙ ap (λ bytes. map vec_items list ++ bytes ∷ rest) joined
    ∙ sym (ap (λ (l : List (Vec ℕ)). map vec_items list ++ behind_all before (map vec_items l)) (drop_here names i name low is))

-- none is left
pub names_done : (before : List ℕ) (list names : List (Vec ℕ)) (i : ℕ) → i ≡ length names
    → map vec_items list ++ behind_all before (map vec_items (drop i names)) ≡ map vec_items list
names_done before list names i all =
    ap (λ k. map vec_items list ++ behind_all before (map vec_items (drop k names))) all
    ∙ ap (λ (l : List (Vec ℕ)). map vec_items list ++ behind_all before (map vec_items l)) (drop-length names)
    ∙ append-nil (map vec_items list)

-- behind nothing a name is itself, and behind a function's name with its dot it is qualified
pub behind_nothing : (names : List (List ℕ)) → behind_all [] names ≡ names
behind_nothing [] = refl
behind_nothing (name ∷ more) = ap (λ l. name ∷ l) (behind_nothing more)

pub behind_function : (function before : List ℕ) (names : List (List ℕ)) → before ≡ function ++ 46 ∷ [] → behind_all before names ≡ qualified function names
behind_function function before [] is = refl
behind_function function before (name ∷ more) is =
    ap (λ l. (before ++ name) ∷ l) (behind_function function before more is)
    ∙ ap (λ bytes. bytes ∷ qualified function more) (ap (λ b. b ++ name) is ∙ append_assoc function (46 ∷ []) name)

-- one function more
pub function_added : (list next : List (List ℕ)) (func_names : List (List ℕ)) (funcs : List Func) (i : ℕ) (function : List ℕ) (f : Func)
    → i < length func_names → i < length funcs → function ≡ get_or func_names i function → f ≡ get_or funcs i f → next ≡ list ++ qualified function f.names
    → next ++ all_qualified (drop (i + 1) func_names) (drop (i + 1) funcs) ≡ list ++ all_qualified (drop i func_names) (drop i funcs)
function_added list next func_names funcs i function f low lower function_is is step =
    let rest = all_qualified (drop (i + 1) func_names) (drop (i + 1) funcs) in
    ap (λ l. l ++ rest) step
    ∙ append_assoc list (qualified function f.names) rest
    ∙ sym (ap (λ (l : List (List ℕ)). list ++ all_qualified l (f ∷ drop (i + 1) funcs)) (drop_here func_names i function low function_is))
    ∙ sym (ap (λ (l : List Func). list ++ all_qualified (drop i func_names) l) (drop_here funcs i f lower is))

-- no function is left
pub functions_done : (list : List (List ℕ)) (func_names : List (List ℕ)) (funcs : List Func) (i : ℕ) → length func_names ≤ i
    → list ++ all_qualified (drop i func_names) (drop i funcs) ≡ list
functions_done list func_names funcs i all =
    ap (λ (l : List (List ℕ)). list ++ all_qualified l (drop i funcs)) (drop_of_length-le func_names all) ∙ append-nil list
