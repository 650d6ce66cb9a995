-- Looking names up.
use Rattle.std.proofs.Common.{◌≡◌, ◌≢◌, ℕ, zero, suc, ◌<◌, ◌+◌, nat_lt, Bool, true, false, not, ◌||◌, List, [], ◌∷◌, ◌++◌, length, map, slice_index_or, refl, sym, ap, ◌∙◌, arith, if◌then◌else◌, ◌⊎◌, inl, inr, vec_items, Some}
use Rattle.std.specs.Str.{bytes_eq}
use Rattle.std.specs.Global.{Vec}
use Rattle.std.specs.List.{list_any, position}
use Rattle.std.proofs.lemmas.Bool.{false_from_ne_true, false≢true}
use Rattle.std.proofs.lemmas.List.{get_or-map, length-map, map-append}
use Rattle.std.proofs.lemmas.List.Quantifiers.{position-Some}
use Rattle.std.proofs.lemmas.Option.{none-some}
use Rattle.std.proofs.lemmas.Slice.Eq.{bytes_eq-Decides}
use Rattle.typed_expressions.specs.Scopes.{Scope, Name, is_among, place_of, with_variable, most_variables}

-- the first place at which the name stands is its place
pub first_place : (names : List (List ℕ)) (x : List ℕ) (i : ℕ) → i < length names → slice_index_or names i x ≡ x
    → ((k : ℕ) → k < i → slice_index_or names k x ≢ x) → (is_among names x ≡ true) × (i ≡ place_of names x)
first_place [] x i within here before = absurd (omega arith)
first_place (y ∷ ys) x zero within here before =
    let same : bytes_eq y x ≡ true = (bytes_eq-Decides y x).1 here in
    (rw same refl, rw same refl)
first_place (y ∷ ys) x (suc i) within here before =
    let differs : bytes_eq y x ≡ false = false_from_ne_true (bytes_eq y x) (λ e. before 0 (omega arith) ((bytes_eq-Decides y x).0 e)) in
    let rest = first_place ys x i (omega arith) here (λ k lt. before (suc k) (omega arith)) in
    (rw differs rest.0, rw differs (omega (arith, rest.1)))

-- a name that stands at no place isn't among them
pub not_among : (names : List (List ℕ)) (x : List ℕ) → ((k : ℕ) → k < length names → slice_index_or names k x ≢ x)
    → (is_among names x ≡ false) × (place_of names x ≡ length names)
not_among [] x nowhere = (refl, refl)
not_among (y ∷ ys) x nowhere =
    let differs : bytes_eq y x ≡ false = false_from_ne_true (bytes_eq y x) (λ e. nowhere 0 (omega arith) ((bytes_eq-Decides y x).0 e)) in
    let rest = not_among ys x (λ k lt. nowhere (suc k) (omega arith)) in
    (rw differs rest.0, rw differs (omega (arith, rest.1)))

-- the name at an index
name_at : {A : Type 0} (f : A → List ℕ) (items : List A) (i : ℕ) (item : A) (x : List ℕ)
    → i < length items → item ≡ slice_index_or items i item → slice_index_or (map f items) i x ≡ f item
name_at f items i item x within is = get_or-map f items i item x within ∙ ap f (sym is)

-- where the name at an index passes the test, the index is its place
pub found_at : {A : Type 0} (f : A → List ℕ) (items : List A) (i : ℕ) (item : A) (bytes x : List ℕ)
    → i < length items → item ≡ slice_index_or items i item → bytes ≡ f item → true ≡ bytes_eq bytes x
    → ((k : ℕ) → k < i → slice_index_or (map f items) k x ≢ x)
    → (is_among (map f items) x ≡ true) × (i ≡ place_of (map f items) x) × (i < length items)
found_at f items i item bytes x within is read passed before =
    let inside : i < length (map f items) = omega (arith, length-map items f) in
    let here : slice_index_or (map f items) i x ≡ x = name_at f items i item x within is ∙ sym read ∙ (bytes_eq-Decides bytes x).0 (sym passed) in
    let first = first_place (map f items) x i inside here before in
    (first.0, first.1, within)

-- where it doesn't, the name there is another
pub another_at : {A : Type 0} (f : A → List ℕ) (items : List A) (i : ℕ) (item : A) (bytes x : List ℕ)
    → i < length items → item ≡ slice_index_or items i item → bytes ≡ f item → false ≡ bytes_eq bytes x
    → slice_index_or (map f items) i x ≢ x
another_at f items i item bytes x within is read failed e =
    let alike : bytes ≡ x = read ∙ sym (name_at f items i item x within is) ∙ e in
    let passed : bytes_eq bytes x ≡ true = (bytes_eq-Decides bytes x).1 alike in
    cc

-- where it is no name of the list
pub nowhere : {A : Type 0} (f : A → List ℕ) (items : List A) (n : ℕ) (x : List ℕ) → n ≡ length items
    → ((k : ℕ) → k < n → slice_index_or (map f items) k x ≢ x)
    → (is_among (map f items) x ≡ false) × (place_of (map f items) x ≡ length items)
nowhere f items n x all before =
    let none = not_among (map f items) x (λ k lt. before k (omega (arith, length-map items f))) in
    (none.0, none.1 ∙ length-map items f)

-- a name of a list is one of a longer list
pub among_front : (xs ys : List (List ℕ)) (x : List ℕ) → is_among xs x ≡ true → is_among (xs ++ ys) x ≡ true
among_front [] ys x is = absurd (false≢true is)
among_front (first ∷ xs) ys x is =
    let inner = among_front xs ys x in
    by_first inner (bytes_eq first x) is
  where
    by_first : (is_among xs x ≡ true → is_among (xs ++ ys) x ≡ true) → (same : Bool) → (same || is_among xs x) ≡ true → (same || is_among (xs ++ ys) x) ≡ true
    by_first inner true h = refl
    by_first inner false h = inner h

-- and keeps its place there
pub place_front : (xs ys : List (List ℕ)) (x : List ℕ) → is_among xs x ≡ true → place_of (xs ++ ys) x ≡ place_of xs x
place_front [] ys x is = absurd (false≢true is)
place_front (first ∷ xs) ys x is =
    let inner = place_front xs ys x in
    by_first inner (bytes_eq first x) is
  where
    by_first : (is_among xs x ≡ true → place_of (xs ++ ys) x ≡ place_of xs x) → (same : Bool) → (same || is_among xs x) ≡ true
        → (if same then 0 else place_of (xs ++ ys) x + 1) ≡ (if same then 0 else place_of xs x + 1)
    by_first inner true h = refl
    by_first inner false h = ap (λ n. n + 1) (inner h)

pub among_last : (xs : List (List ℕ)) (x : List ℕ) → is_among (xs ++ x ∷ []) x ≡ true
among_last [] x = let same : bytes_eq x x ≡ true = (bytes_eq-Decides x x).1 refl in rw same refl
among_last (first ∷ xs) x =
    let inner = among_last xs x in
    by_first inner (bytes_eq first x)
  where
    by_first : is_among (xs ++ x ∷ []) x ≡ true → (same : Bool) → (same || is_among (xs ++ x ∷ []) x) ≡ true
    by_first inner true = refl
    by_first inner false = inner

-- and one of a list with a further name is one of the list, or that name
pub among_cases : (xs : List (List ℕ)) (x y : List ℕ) → is_among (xs ++ x ∷ []) y ≡ true → (is_among xs y ≡ true) ⊎ (x ≡ y)
among_cases [] x y is = by_same (bytes_eq x y) refl is
  where
    by_same : (same : Bool) → bytes_eq x y ≡ same → (same || false) ≡ true → (false ≡ true) ⊎ (x ≡ y)
    by_same true e h = inr ((bytes_eq-Decides x y).0 e)
    by_same false e h = absurd (false≢true h)
among_cases (first ∷ xs) x y is =
    let inner = among_cases xs x y in
    by_first inner (bytes_eq first y) is
  where
    by_first : (is_among (xs ++ x ∷ []) y ≡ true → (is_among xs y ≡ true) ⊎ (x ≡ y)) → (same : Bool)
        → (same || is_among (xs ++ x ∷ []) y) ≡ true → ((same || is_among xs y) ≡ true) ⊎ (x ≡ y)
    by_first inner true h = inl refl
    by_first inner false h = inner h

-- the place of a name of a list is below its length
pub place_below : (xs : List (List ℕ)) (x : List ℕ) → is_among xs x ≡ true → place_of xs x < length xs
place_below [] x is = absurd (false≢true is)
place_below (first ∷ xs) x is =
    let inner = place_below xs x in
    by_first inner (bytes_eq first x) is
  where
    by_first : (is_among xs x ≡ true → place_of xs x < length xs) → (same : Bool) → (same || is_among xs x) ≡ true
        → (if same then 0 else place_of xs x + 1) < length (first ∷ xs)
    by_first inner true h = omega arith
    by_first inner false h = let below = inner h in omega arith

-- a name that isn't among others is none of them
pub differs : (xs : List (List ℕ)) (x : List ℕ) (k : ℕ) (d : List ℕ) → is_among xs x ≡ false → k < length xs → slice_index_or xs k d ≢ x
differs [] x k d none within e = omega arith
differs (first ∷ xs) x zero d none within e =
    let same : bytes_eq first x ≡ true = (bytes_eq-Decides first x).1 e in
    let is : is_among (first ∷ xs) x ≡ true = rw same refl in
    false≢true (sym none ∙ is)
differs (first ∷ xs) x (suc k) d none within e =
    let inner = differs xs x k d in
    by_first inner (bytes_eq first x) none
  where
    by_first : (is_among xs x ≡ false → k < length xs → slice_index_or xs k d ≢ x) → (same : Bool) → (same || is_among xs x) ≡ false → ⊥
    by_first inner true h = false≢true (sym h)
    by_first inner false h = inner h (omega arith) e

-- a new name's place is behind the others
pub place_last : (xs : List (List ℕ)) (x : List ℕ) → is_among xs x ≡ false → place_of (xs ++ x ∷ []) x ≡ length xs
place_last [] x none = let same : bytes_eq x x ≡ true = (bytes_eq-Decides x x).1 refl in rw same refl
place_last (first ∷ xs) x none =
    let inner = place_last xs x in
    by_first inner (bytes_eq first x) none
  where
    by_first : (is_among xs x ≡ false → place_of (xs ++ x ∷ []) x ≡ length xs) → (same : Bool) → (same || is_among xs x) ≡ false
        → (if same then 0 else place_of (xs ++ x ∷ []) x + 1) ≡ length (first ∷ xs)
    by_first inner true h = absurd (false≢true (sym h))
    by_first inner false h = let rest = inner h in omega arith

-- ── In a set that keeps the order ──

abbrev is_name : List ℕ → Vec ℕ → Bool
is_name x name = bytes_eq x name.items

swap : (xs ys : List ℕ) → bytes_eq xs ys ≡ bytes_eq ys xs
swap xs ys = by_both (bytes_eq xs ys) (bytes_eq ys xs) refl refl
  where
    by_both : (a b : Bool) → bytes_eq xs ys ≡ a → bytes_eq ys xs ≡ b → a ≡ b
    by_both true true first second = refl
    by_both false false first second = refl
    by_both true false first second = absurd (false≢true (sym second ∙ (bytes_eq-Decides ys xs).1 (sym ((bytes_eq-Decides xs ys).0 first))))
    by_both false true first second = absurd (false≢true (sym first ∙ (bytes_eq-Decides xs ys).1 (sym ((bytes_eq-Decides ys xs).0 second))))

-- a name is in the list of the set's names where the look-up passes at one of them
pub among_any : (names : List (Vec ℕ)) (x : List ℕ) → list_any (is_name x) names ≡ is_among (map vec_items names) x
among_any [] x = refl
among_any (name ∷ names) x =
    ap (λ b. b || list_any (is_name x) names) (swap x name.items) ∙ ap (λ b. bytes_eq name.items x || b) (among_any names x)

pub place_found : (names : List (Vec ℕ)) (x : List ℕ) (i : ℕ) → position (is_name x) names ≡ Some i → i ≡ place_of (map vec_items names) x
place_found [] x i is = absurd (none-some i is)
place_found (name ∷ names) x i is =
    let all = name ∷ names in
    let found = position-Some (is_name x) all i name is in
    let at = λ (k : ℕ) (within : k < length all). get_or-map vec_items all k name x within in
    let inside : i < length (map vec_items all) = omega (arith, found.0, length-map all vec_items) in
    let here : slice_index_or (map vec_items all) i x ≡ x = at i found.0 ∙ sym ((bytes_eq-Decides x (slice_index_or all i name).items).0 found.1) in
    (first_place (map vec_items all) x i inside here (λ k before e.
    let within : k < length all = omega (arith, before, found.0) in
    let passes : bytes_eq x (slice_index_or all k name).items ≡ true = (bytes_eq-Decides x (slice_index_or all k name).items).1 (sym e ∙ at k within) in
    false≢true (sym (found.2 k before) ∙ passes))).1

-- the place of what is no name of the list is its length
place_past : (names : List (List ℕ)) (x : List ℕ) → is_among names x ≡ false → place_of names x ≡ length names
place_past [] x none = refl
place_past (first ∷ names) x none =
    let inner = place_past names x in
    by_first inner (bytes_eq first x) none
  where
    by_first : (is_among names x ≡ false → place_of names x ≡ length names) → (same : Bool) → (same || is_among names x) ≡ false
        → (if same then 0 else place_of names x + 1) ≡ length (first ∷ names)
    by_first inner true h = absurd (false≢true (sym h))
    by_first inner false h = let rest = inner h in omega arith

pub place_missing : (names : List (Vec ℕ)) (x : List ℕ) → list_any (is_name x) names ≡ false → length names ≡ place_of (map vec_items names) x
place_missing names x none =
    sym (place_past (map vec_items names) x (sym (among_any names x) ∙ none) ∙ length-map names vec_items)

-- a new name goes last, where there is room
pub added : (keys : List (Vec ℕ)) (name : Vec ℕ) (names : List (List ℕ)) (x : List ℕ) → map vec_items keys ≡ names → name.items ≡ x
    → is_among names x ≡ false
    → map vec_items (if list_any (is_name name.items) keys then keys else keys ++ name ∷ []) ≡ names ++ x ∷ []
added keys name names x are is none =
    let fresh : list_any (is_name name.items) keys ≡ false =
    among_any keys name.items ∙ ap (λ ns. is_among ns name.items) are ∙ ap (is_among names) is ∙ none
    in
    ap (λ known. map vec_items (if known then keys else keys ++ name ∷ [])) fresh
    ∙ map-append vec_items keys (name ∷ [])
    ∙ ap (λ ns. ns ++ name.items ∷ []) are
    ∙ ap (λ n. names ++ n ∷ []) is

-- and so it becomes a variable, or stays none where there is no room
pub with_room : (others : ℕ) (names : List (List ℕ)) (x : List ℕ) (room : Bool) → is_among names x ≡ false
    → nat_lt (others + length names) most_variables ≡ room → with_variable others names x ≡ (if room then names ++ x ∷ [] else names)
with_room others names x room none is =
    ap (λ known. if known then names else if nat_lt (others + length names) most_variables then names ++ x ∷ [] else names) none
    ∙ ap (λ fits. if fits then names ++ x ∷ [] else names) is

-- what isn't said not to be is
pub not_false : (b : Bool) → false ≡ not b → b ≡ true
not_false true e = refl
not_false false e = e

-- a scope with other names
abbrev pub with_visible : Scope → List Name → Scope
with_visible scope names = record scope { visible = names }

abbrev pub with_declared : Scope → List Name → Scope
with_declared scope names = record scope { declared = names }
