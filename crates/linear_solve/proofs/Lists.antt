-- Members of lists, one element more at a time.
use Rattle.std.proofs.Common.{◌≡◌, ℕ, zero, suc, ◌+◌, ◌<◌, ◌≤◌, List, [], ◌∷◌, ◌++◌, length, take, get_or, map, refl, sym, ap, subst, ◌∙◌, arith, All, Contains}
use Rattle.std.proofs.lemmas.List.{take_all, take_more, length-take-le}
use Rattle.std.proofs.lemmas.List.Elements.{All-contains, All-contains_itself, All-more, All-take, Contains-get_or}

module _ {X : Type 0} where
  -- the element at an index is a member
  pub item_in : (xs : List X) (i : ℕ) (x : X) → i < length xs → x ≡ get_or xs i x → Contains xs x
  item_in xs i x h is = (i, h, sym is)

  -- what holds of each member holds of all, and the other way round
  pub all_of : (P : X → Type 0) (xs : List X) → ((x : X) → Contains xs x → P x) → All P xs
  all_of P xs each k d h = each (get_or xs k d) (Contains-get_or xs k d h)

  pub member_of : (P : X → Type 0) (xs : List X) (x : X) → All P xs → Contains xs x → P x
  member_of P xs x all member = All-contains P xs x all member

  pub taken_in : (xs : List X) (i : ℕ) (x : X) → Contains (take i xs) x → Contains xs x
  taken_in xs i x member =
      All-contains (λ y. Contains xs y) (take i xs) x (All-take (λ y. Contains xs y) i xs (All-contains_itself xs)) member

  -- one element more
  pub all_more : (P : X → Type 0) (xs : List X) (i : ℕ) (x : X) → i < length xs → x ≡ get_or xs i x → All P (take i xs) → P x → All P (take (i + 1) xs)
  all_more P xs i x h is all here = All-more P xs i x h all (subst P is here)

  pub take_snoc : (xs : List X) (i : ℕ) (x : X) → i < length xs → x ≡ get_or xs i x → take (i + 1) xs ≡ take i xs ++ x ∷ []
  take_snoc xs i x h is = take_more xs i x h ∙ ap (λ y. take i xs ++ y ∷ []) (sym is)

  -- all elements, at the end of a loop
  pub all_end : (P : X → Type 0) (xs : List X) (i : ℕ) → length xs ≤ i → All P (take i xs) → All P xs
  all_end P xs i h all = subst (λ ys. All P ys) (take_all i xs h) all

  pub all_none : (P : X → Type 0) (xs : List X) → All P (take 0 xs)
  all_none P xs k d h = absurd (let e : length (take 0 xs) ≡ 0 = length-take-le 0 xs (omega arith) in omega (arith, e))

  -- a member of a list is one of a longer list
  pub behind : (xs : List X) (x y : X) → Contains xs y → Contains (x ∷ xs) y
  behind xs x y member = (suc member.0, omega (arith, member.1), member.2)

  -- the members of a list of images are the images of the members
  pub in_map : {Y : Type 0} (f : X → Y) (xs : List X) (x : X) → Contains xs x → Contains (map f xs) (f x)
  in_map f [] x member = absurd (omega (arith, member.1))
  in_map f (y ∷ xs) x (zero, low, is) = (0, omega arith, ap f is)
  in_map f (y ∷ xs) x (suc k, low, is) = let rest = in_map f xs x (k, omega arith, is) in (suc rest.0, omega (arith, rest.1), rest.2)

  pub of_map : {Y : Type 0} (f : X → Y) (xs : List X) (y : Y) → Contains (map f xs) y → (x : X) × Contains xs x × (f x ≡ y)
  of_map f [] y member = absurd (omega (arith, member.1))
  of_map f (x ∷ xs) y (zero, low, is) = (x, (0, omega arith, refl), is)
  of_map f (x ∷ xs) y (suc k, low, is) = let rest = of_map f xs y (k, omega arith, is) in (rest.0, behind xs x rest.0 rest.1, rest.2)
