-- Places in lists of distinct parts.
use Rattle.std.proofs.Common.{◌≡◌, ◌∙◌, ℕ, zero, suc, ◌+◌, ◌<◌, ◌≤◌, Bool, true, false, cond, not, inl, inr, List, [], ◌∷◌, ◌++◌, None, Some, length, slice_index_or, slice_get, refl, sym, ap, subst, Decides, arith, append-nil, if◌then◌else◌}
use Rattle.std.specs.Prelude.{position, ◌||◌, ◌⊎◌}
use Rattle.std.specs.List.{IsDistinct, list_any, position_or_len}
use Rattle.std.specs.Map.{keys_of}
use Rattle.std.proofs.lemmas.Bool.{cases_lt, false≢true}
use Rattle.std.proofs.lemmas.Grind.{common_steps}
use Rattle.std.proofs.lemmas.Option.{same_Some}
use Rattle.std.proofs.lemmas.List.Quantifiers.{position-Some}
use Rattle.std.proofs.lemmas.Map.Keys.{apart_from_distinct}
use Rattle.tree_arena.specs.Noting.{IsNoted, IsNotedWith}

-- ---- a place and what stands there

pub get_there : {X : Type 0} (xs : List X) (i : ℕ) (d : X) → i < length xs → slice_get xs i ≡ Some (slice_index_or xs i d)
get_there [] i d low = absurd (omega arith)
get_there (x ∷ xs) zero d low = refl
get_there (x ∷ xs) (suc i) d low = get_there xs i d (omega arith)

pub there_get : {X : Type 0} (xs : List X) (i : ℕ) (x d : X) → slice_get xs i ≡ Some x → slice_index_or xs i d ≡ x
there_get [] i x d is = cc
there_get (y ∷ xs) zero x d is = same_Some y x is
there_get (y ∷ xs) (suc i) x d is = there_get xs i x d is

pub below_get : {X : Type 0} (xs : List X) (i : ℕ) (x : X) → slice_get xs i ≡ Some x → i < length xs
below_get [] i x is = cc
below_get (y ∷ xs) zero x is = omega arith
below_get (y ∷ xs) (suc i) x is = let low = below_get xs i x is in omega arith

pub get_front : {X : Type 0} (xs ys : List X) (i : ℕ) → i < length xs → slice_get (xs ++ ys) i ≡ slice_get xs i
get_front [] ys i low = absurd (omega arith)
get_front (x ∷ xs) ys zero low = refl
get_front (x ∷ xs) ys (suc i) low = get_front xs ys i (omega arith)

pub get_last : {X : Type 0} (xs : List X) (x : X) → slice_get (xs ++ x ∷ []) (length xs) ≡ Some x
get_last [] x = refl
get_last (y ∷ xs) x = get_last xs x

pub length_longer : {X : Type 0} (xs : List X) (x : X) → length (xs ++ x ∷ []) ≡ suc (length xs)
length_longer [] x = refl
length_longer (y ∷ xs) x = ap suc (length_longer xs x)

-- ---- what a search says

none_passes : {X : Type 0} (p : X → Bool) (xs : List X) → length xs ≤ position_or_len p xs → (list_any p xs ≡ false) × (position_or_len p xs ≡ length xs)
none_passes p [] far = (refl, refl)
none_passes p (x ∷ xs) far = by (p x) refl (λ less. none_passes p xs less)
  where
    by : (b : Bool) → p x ≡ b → (length xs ≤ position_or_len p xs → (list_any p xs ≡ false) × (position_or_len p xs ≡ length xs)) → (list_any p (x ∷ xs) ≡ false) × (position_or_len p (x ∷ xs) ≡ length (x ∷ xs))
    by true is behind = let zero_there : position_or_len p (x ∷ xs) ≡ 0 = ap (λ b. cond (not b) (1 + position_or_len p xs) 0) is in absurd (omega arith)
    by false is behind =
        let more : position_or_len p (x ∷ xs) ≡ 1 + position_or_len p xs = ap (λ b. cond (not b) (1 + position_or_len p xs) 0) is in
        let rest = behind (omega (arith, more, far)) in
        (ap (λ b. b || list_any p xs) is ∙ rest.0, more ∙ ap (λ n. 1 + n) rest.1 ∙ omega arith)

pub nowhere : {X : Type 0} (p : X → Bool) (xs : List X) (i : ℕ) (x : X) → list_any p xs ≡ false → slice_get xs i ≡ Some x → p x ≡ true → ⊥
nowhere p [] i x none is passes = cc
nowhere p (y ∷ xs) zero x none is passes =
    let here : p y ≡ true = ap p (same_Some y x is) ∙ passes in
    false≢true (sym none ∙ ap (λ b. b || list_any p xs) here)
nowhere p (y ∷ xs) (suc i) x none is passes = by (p y) refl (λ rest. nowhere p xs i x rest is passes)
  where
    by : (b : Bool) → p y ≡ b → (list_any p xs ≡ false → ⊥) → ⊥
    by true here behind = false≢true (sym none ∙ ap (λ b. b || list_any p xs) here)
    by false here behind = behind (sym (ap (λ b. b || list_any p xs) here) ∙ none)

module _ {X : Type 0} (eq : X → X → Bool) (tells : (x y : X) → Decides (eq x y) (x ≡ y)) where
  found_at : (xs : List X) (x : X) (place : ℕ) → position (eq x) xs ≡ Some place → slice_get xs place ≡ Some x
  found_at xs x place is =
      let at = position-Some (eq x) xs place x is in
      get_there xs place x at.0 ∙ ap (λ y. Some y) (sym ((tells x (slice_index_or xs place x)).0 at.1))

  pub noted_there : (xs : List X) (x : X) (place : ℕ) → position (eq x) xs ≡ Some place → IsNoted xs xs x place
  noted_there xs x place is = record { at = found_at xs x place is; list = inl refl }

  absent : (xs : List X) (x : X) → position (eq x) xs ≡ None → (list_any (eq x) xs ≡ false) × (position_or_len (eq x) xs ≡ length xs)
  absent xs x none = none_passes (eq x) xs (grind (arith, common_steps))

  pub noted_new : (xs new : List X) (x : X) (place : ℕ) → position (eq x) xs ≡ None → new ≡ (if list_any (eq x) xs then xs else xs ++ x ∷ [])
      → place ≡ position_or_len (eq x) xs → IsNoted xs new x place
  noted_new xs new x place none made at =
      let none_of = absent xs x none in
      let is : new ≡ xs ++ x ∷ [] = made ∙ ap (λ b. if b then xs else xs ++ x ∷ []) none_of.0 in
      let last : place ≡ length xs = at ∙ none_of.1 in
      record {
        at = subst (λ n. slice_get new n ≡ Some x) (sym last) (subst (λ (l : List X). slice_get l (length xs) ≡ Some x) (sym is) (get_last xs x));
        list = inr (λ i there. nowhere (eq x) xs i x none_of.0 there ((tells x x).1 refl), is);
      }

  -- ---- with a number beside

  keys_longer : (es : List (X × ℕ)) (e : X × ℕ) → keys_of (es ++ e ∷ []) ≡ keys_of es ++ e.0 ∷ []
  keys_longer [] e = refl
  keys_longer (y ∷ es) e = ap (λ t. y.0 ∷ t) (keys_longer es e)

  pub noted_with_there : (es : List (X × ℕ)) (x : X) (number place : ℕ) → position (eq x) (keys_of es) ≡ Some place → IsNotedWith es es x number place
  noted_with_there es x number place is = record { at = found_at (keys_of es) x place is; list = inl refl }

  pub noted_with_new : (es new : List (X × ℕ)) (x : X) (number place : ℕ) → position (eq x) (keys_of es) ≡ None → new ≡ es ++ (x, number) ∷ []
      → place ≡ position_or_len (eq x) (keys_of es) → IsNotedWith es new x number place
  noted_with_new es new x number place none is at =
      let none_of = absent (keys_of es) x none in
      let last : place ≡ length (keys_of es) = at ∙ none_of.1 in
      let keys : keys_of new ≡ keys_of es ++ x ∷ [] = ap (λ (l : List (X × ℕ)). keys_of l) is ∙ keys_longer es (x, number) in
      record {
        at = subst (λ n. slice_get (keys_of new) n ≡ Some x) (sym last) (subst (λ (l : List X). slice_get l (length (keys_of es)) ≡ Some x) (sym keys) (get_last (keys_of es) x));
        list = inr (λ i there. nowhere (eq x) (keys_of es) i x none_of.0 there ((tells x x).1 refl), is);
      }

  -- a part stands at one place
  pub one_place : (xs : List X) (x : X) (i j : ℕ) → IsDistinct eq xs → slice_get xs i ≡ Some x → slice_get xs j ≡ Some x → i ≡ j
  one_place xs x i j unique first second = elim (cases_lt i j) [
    | inl under ↦ absurd (false≢true (sym (apart_from_distinct eq xs i j x unique under (below_get xs j x second))
        ∙ (tells _ _).1 (there_get xs i x x first ∙ sym (there_get xs j x x second))))
    | inr over ↦ elim (cases_lt j i) [
      | inl under ↦ absurd (false≢true (sym (apart_from_distinct eq xs j i x unique under (below_get xs i x first))
          ∙ (tells _ _).1 (there_get xs j x x second ∙ sym (there_get xs i x x first))))
      | inr same ↦ omega arith
    ]
  ]

-- ---- lists that go on

-- no part stands at two places
abbrev pub StandOnce : {X : Type 0} → List X → Type 0
StandOnce {X} xs = (x : X) (i j : ℕ) → slice_get xs i ≡ Some x → slice_get xs j ≡ Some x → i ≡ j

front_or_last : {X : Type 0} (xs : List X) (y x : X) (i : ℕ) → slice_get (xs ++ y ∷ []) i ≡ Some x → (slice_get xs i ≡ Some x) ⊎ ((i ≡ length xs) × (y ≡ x))
front_or_last [] y x zero is = inr (refl, same_Some y x is)
front_or_last [] y x (suc i) is = cc
front_or_last (z ∷ xs) y x zero is = inl is
front_or_last (z ∷ xs) y x (suc i) is = elim (front_or_last xs y x i is) [
  | inl front ↦ inl front
  | inr last ↦ inr (ap suc last.0, last.1)
]

pub once_more : {X : Type 0} (xs new : List X) (x : X) (place : ℕ) → StandOnce xs → IsNoted xs new x place → StandOnce new
once_more {X} xs new x place once noted = elim noted.list [
  | inl same ↦ subst (λ (l : List X). StandOnce l) (sym same) once
  | inr more ↦ subst (λ (l : List X). StandOnce l) (sym more.1) (λ y i j first second.
      elim (front_or_last xs x y i first) [
        | inl here ↦ elim (front_or_last xs x y j second) [
          | inl there ↦ once y i j here there
          | inr last ↦ absurd (more.0 i (here ∙ ap (λ (z : X). Some z) (sym last.1)))
        ]
        | inr last ↦ elim (front_or_last xs x y j second) [
          | inl there ↦ absurd (more.0 j (there ∙ ap (λ (z : X). Some z) (sym last.1)))
          | inr end ↦ last.0 ∙ sym end.0
        ]
      ])
]

-- the list that goes on is the old one with more behind it
pub grown : {X : Type 0} (xs new : List X) (x : X) (place : ℕ) → IsNoted xs new x place → (more : List X) × (new ≡ xs ++ more)
grown xs new x place noted = elim noted.list [
  | inl same ↦ ([], same ∙ sym (append-nil xs))
  | inr more ↦ (x ∷ [], more.1)
]
