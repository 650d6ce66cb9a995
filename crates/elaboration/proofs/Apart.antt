-- The names of a whole program are apart, where no name has a dot in it.
use Rattle.std.proofs.Common.{◌≡◌, ◌≢◌, ℕ, zero, suc, List, [], ◌∷◌, ◌++◌, length, map, All, AllPairs, refl, sym, ap, ◌∙◌, arith}
use Rattle.std.proofs.lemmas.List.Kept.{AllPairs-cons}
use Rattle.call_meaning.specs.declared.statement.Func.{Func}
use Rattle.call_meaning.specs.Tables.{qualified, all_qualified, whole_names}

abbrev Name : Type 0
Name = List ℕ

abbrev pub HasNoDot : Name → Type 0
HasNoDot [] = Unit {0}
HasNoDot (code ∷ more) = (code ≢ 46) × HasNoDot more

abbrev AllApart : List Name → Type 0
AllApart names = AllPairs (λ a b. a ≢ b) names

-- a property of each of a list's elements, and of each pair, by recursion
abbrev pub Each : {A : Type 0} → (A → Type 0) → List A → Type 0
Each P [] = Unit {0}
Each P (x ∷ more) = P x × Each P more

abbrev EachPair : List Name → Type 0
EachPair [] = Unit {0}
EachPair (x ∷ more) = Each (λ y. x ≢ y) more × EachPair more

each_of : {A : Type 0} (P : A → Type 0) (xs : List A) → All P xs → Each P xs
each_of P [] all = tt
each_of P (x ∷ more) all = (all 0 x (omega arith), each_of P more (λ k d low. all (suc k) d (omega (arith, low))))

all_of_each : {A : Type 0} (P : A → Type 0) (xs : List A) → Each P xs → All P xs
all_of_each P [] each k d low = absurd (omega (arith, low))
all_of_each P (x ∷ more) each zero d low = each.0
all_of_each P (x ∷ more) each (suc k) d low = all_of_each P more each.1 k d (omega (arith, low))

pairs_of : (xs : List Name) → AllApart xs → EachPair xs
pairs_of [] all = tt
pairs_of (x ∷ more) all = (
  each_of (λ y. x ≢ y) more (λ k d low. all 0 (suc k) d (omega arith) (omega (arith, low))),
  pairs_of more (λ i j d less low. all (suc i) (suc j) d (omega (arith, less)) (omega (arith, low))),
)

all_of_pairs : (xs : List Name) → EachPair xs → AllApart xs
all_of_pairs [] pairs = λ i j d less low. absurd (omega (arith, low))
all_of_pairs (x ∷ more) pairs = AllPairs-cons (λ a b. a ≢ b) x more (all_of_each (λ y. x ≢ y) more pairs.0) (all_of_pairs more pairs.1)

each_append : {A : Type 0} (P : A → Type 0) (xs ys : List A) → Each P xs → Each P ys → Each P (xs ++ ys)
each_append P [] ys first second = second
each_append P (x ∷ xs) ys first second = (first.0, each_append P xs ys first.1 second)

each_map : {A B : Type 0} (P : B → Type 0) (f : A → B) (xs : List A) → Each (λ x. P (f x)) xs → Each P (map f xs)
each_map P f [] each = tt
each_map P f (x ∷ more) each = (each.0, each_map P f more each.1)

each_all : {A : Type 0} (P : A → Type 0) (xs : List A) → ((x : A) → P x) → Each P xs
each_all P [] all = tt
each_all P (x ∷ more) all = (all x, each_all P more all)

each_also : {A : Type 0} (P Q : A → Type 0) (xs : List A) → ((x : A) → P x → Q x) → Each P xs → Each Q xs
each_also P Q [] all each = tt
each_also P Q (x ∷ more) all each = (all x each.0, each_also P Q more all each.1)

pairs_append : (xs ys : List Name) → EachPair xs → EachPair ys → Each (λ x. Each (λ y. x ≢ y) ys) xs → EachPair (xs ++ ys)
pairs_append [] ys first second cross = second
pairs_append (x ∷ xs) ys first second cross = (each_append (λ y. x ≢ y) xs ys first.0 cross.0, pairs_append xs ys first.1 second cross.1)

-- ── Names with a dot ──

abbrev first_code : ℕ → Name → ℕ
first_code d [] = d
first_code d (code ∷ more) = code

abbrev further : Name → Name
further [] = []
further (code ∷ more) = more

-- one without a dot is none with one
dotted_apart : (a f x : Name) → HasNoDot a → a ≢ f ++ 46 ∷ x
dotted_apart [] [] x none is = omega (arith, ap length is)
dotted_apart [] (code ∷ f) x none is = omega (arith, ap length is)
dotted_apart (c ∷ a) [] x none is = none.0 (ap (first_code 0) is)
dotted_apart (c ∷ a) (code ∷ f) x none is = dotted_apart a f x none.1 (ap further is)

-- of two with a dot the parts are the same
same_parts : (f g x y : Name) → HasNoDot f → HasNoDot g → f ++ 46 ∷ x ≡ g ++ 46 ∷ y → (f ≡ g) × (x ≡ y)
same_parts [] [] x y one other is = (refl, ap further is)
same_parts [] (d ∷ g) x y one other is = absurd (other.0 (sym (ap (first_code 0) is)))
same_parts (c ∷ f) [] x y one other is = absurd (one.0 (ap (first_code 0) is))
same_parts (c ∷ f) (d ∷ g) x y one other is =
    let rest = same_parts f g x y one.1 other.1 (ap further is) in
    (ap (λ code. code ∷ f) (ap (first_code 0) is) ∙ ap (λ more. d ∷ more) rest.0, rest.1)

-- ── The names of functions ──

qualified_apart : (f : Name) (names : List Name) → HasNoDot f → EachPair names → EachPair (qualified f names)
qualified_apart f [] none pairs = tt
qualified_apart f (x ∷ more) none pairs = (
  each_map (λ y. (f ++ 46 ∷ x) ≢ y) (λ name. f ++ 46 ∷ name) more
      (each_also (λ y. x ≢ y) (λ y. (f ++ 46 ∷ x) ≢ (f ++ 46 ∷ y)) more (λ y apart is. apart (same_parts f f x y none none is).1) pairs.0),
  qualified_apart f more none pairs.1,
)

-- those of one function and of others
function_apart : (f : Name) (x : Name) (others : List Name) (funcs : List Func) → HasNoDot f → Each HasNoDot others → Each (λ g. f ≢ g) others
    → Each (λ y. (f ++ 46 ∷ x) ≢ y) (all_qualified others funcs)
function_apart f x [] [] none all apart = tt
function_apart f x [] (one ∷ funcs) none all apart = tt
function_apart f x (g ∷ others) [] none all apart = tt
function_apart f x (g ∷ others) (one ∷ funcs) none all apart =
    each_append (λ y. (f ++ 46 ∷ x) ≢ y) (qualified g one.names) (all_qualified others funcs)
    (each_map (λ y. (f ++ 46 ∷ x) ≢ y) (λ name. g ++ 46 ∷ name) one.names
    (each_all (λ y. (f ++ 46 ∷ x) ≢ (g ++ 46 ∷ y)) one.names (λ y is. apart.0 (same_parts f g x y none all.0 is).0)))
    (function_apart f x others funcs none all.1 apart.1)

all_apart : (func_names : List Name) (funcs : List Func) → EachPair func_names → Each HasNoDot func_names → Each (λ f. EachPair f.names) funcs
    → EachPair (all_qualified func_names funcs)
all_apart [] [] pairs none own = tt
all_apart [] (one ∷ funcs) pairs none own = tt
all_apart (f ∷ others) [] pairs none own = tt
all_apart (f ∷ others) (one ∷ funcs) pairs none own =
    pairs_append (qualified f one.names) (all_qualified others funcs) (qualified_apart f one.names none.0 own.0)
    (all_apart others funcs pairs.1 none.1 own.1)
    (each_map (λ x. Each (λ y. x ≢ y) (all_qualified others funcs)) (λ name. f ++ 46 ∷ name) one.names
    (each_all (λ x. Each (λ y. (f ++ 46 ∷ x) ≢ y) (all_qualified others funcs)) one.names
    (λ x. function_apart f x others funcs none.0 none.1 pairs.0)))

-- a name without a dot is none of a function's
main_apart : (a : Name) (func_names : List Name) (funcs : List Func) → HasNoDot a → Each (λ y. a ≢ y) (all_qualified func_names funcs)
main_apart a [] [] none = tt
main_apart a [] (one ∷ funcs) none = tt
main_apart a (f ∷ others) [] none = tt
main_apart a (f ∷ others) (one ∷ funcs) none =
    each_append (λ y. a ≢ y) (qualified f one.names) (all_qualified others funcs)
    (each_map (λ y. a ≢ y) (λ name. f ++ 46 ∷ name) one.names (each_all (λ y. a ≢ (f ++ 46 ∷ y)) one.names (λ y. dotted_apart a f y none)))
    (main_apart a others funcs none)

pub whole_apart : (func_names : List Name) (funcs : List Func) (names : List Name) → AllApart func_names → All HasNoDot func_names
    → Each (λ f. AllApart f.names) funcs → AllApart names → All HasNoDot names → AllApart (whole_names func_names funcs names)
whole_apart func_names funcs names apart dotless own mine plain =
    all_of_pairs (whole_names func_names funcs names)
    (pairs_append names (all_qualified func_names funcs) (pairs_of names mine)
    (all_apart func_names funcs (pairs_of func_names apart) (each_of HasNoDot func_names dotless)
    (each_also (λ (f : Func). AllApart f.names) (λ (f : Func). EachPair f.names) funcs (λ f. pairs_of f.names) own))
    (each_also HasNoDot (λ x. Each (λ y. x ≢ y) (all_qualified func_names funcs)) names (λ x none. main_apart x func_names funcs none)
    (each_of HasNoDot names plain)))
