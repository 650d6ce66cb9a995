-- Lists that hold for each element of the parts that they are made of.
use Rattle.std.proofs.Common.{zero, suc, List, [], ◌∷◌, ◌++◌, All, Contains, refl, subst, arith}
use Rattle.std.specs.List.{flat_map}
use Rattle.std.proofs.lemmas.List.Concat.{flat_map-cons}
use Rattle.std.proofs.lemmas.List.Elements.{All-cons, All-tail}

module _ {X : Type 0} (P : X → Type 0) where
  pub all_none : All P []
  all_none k d low = absurd (omega arith)

  pub all_first : (x : X) (xs : List X) → All P (x ∷ xs) → P x
  all_first x xs all = all 0 x (omega arith)

  pub all_left : (xs ys : List X) → All P (xs ++ ys) → All P xs
  all_left [] ys all = all_none
  all_left (x ∷ xs) ys all = All-cons P x xs (all_first x (xs ++ ys) all) (all_left xs ys (All-tail P x (xs ++ ys) all))

  pub all_right : (xs ys : List X) → All P (xs ++ ys) → All P ys
  all_right [] ys all = all
  all_right (x ∷ xs) ys all = all_right xs ys (All-tail P x (xs ++ ys) all)

  pub all_one : (x : X) → P x → All P (x ∷ [])
  all_one x holds = All-cons P x [] holds all_none

  -- of the lists that are put together, those of one element
  pub all_of_one : {Y : Type 0} (f : Y → List X) (ys : List Y) (y : Y) → Contains ys y → All P (flat_map f ys) → All P (f y)
  all_of_one f [] y inside all = absurd (let low = inside.1 in omega arith)
  all_of_one f (z ∷ ys) y (zero, low, is) all =
      subst (λ t. All P (f t)) is (all_left (f z) (flat_map f ys) (subst (All P) (flat_map-cons f z ys) all))
  all_of_one f (z ∷ ys) y (suc k, low, is) all =
      all_of_one f ys y (k, omega arith, is) (all_right (f z) (flat_map f ys) (subst (All P) (flat_map-cons f z ys) all))

pub contains_first : {X : Type 0} (x : X) (xs : List X) → Contains (x ∷ xs) x
contains_first x xs = (0, omega arith, refl)

pub contains_later : {X : Type 0} (x y : X) (xs : List X) → Contains xs y → Contains (x ∷ xs) y
contains_later x y xs (k, low, is) = (suc k, omega arith, is)
