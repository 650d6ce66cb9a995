-- Advisers that are asked one after the other.
use Rattle.std.proofs.Common.{◌≡◌, ℕ, zero, suc, ◌+◌, ◌<◌, List, [], ◌∷◌, length, map, take, drop, set, get_or, All, add-one, length-set, refl, sym, ap, subst, ◌∙◌, arith}

module _ {A : Type 0} where
  -- behind what is the same, so is the next
  same_next : (xs ys : List A) (n : ℕ) (x : A) → n < length xs → length xs ≡ length ys → drop n xs ≡ drop n ys → get_or xs n x ≡ get_or ys n x
  same_next [] ys n x low long same = absurd (omega (arith, low))
  same_next (a ∷ xs) [] n x low long same = absurd (omega (arith, long))
  same_next (a ∷ xs) (b ∷ ys) zero x low long same = cc
  same_next (a ∷ xs) (b ∷ ys) (suc n) x low long same = same_next xs ys n x (omega (arith, low)) (omega (arith, long)) same

  pub same_behind : (xs ys : List A) (n : ℕ) (y : A) → length xs ≡ length ys → drop n xs ≡ drop n ys → drop (suc n) (set xs n y) ≡ drop (suc n) ys
  same_behind [] [] n y long same = refl
  same_behind [] (b ∷ ys) n y long same = absurd (omega (arith, long))
  same_behind (a ∷ xs) [] n y long same = absurd (omega (arith, long))
  same_behind (a ∷ xs) (b ∷ ys) zero y long same = cc
  same_behind (a ∷ xs) (b ∷ ys) (suc n) y long same = same_behind xs ys n y (omega (arith, long)) same

  module _ (asked : A → ℕ) where
    -- the next was asked no more often than it was before
    pub next_below : (xs ys : List A) (n m : ℕ) (x : A) → n < length xs → length xs ≡ length ys → drop n xs ≡ drop n ys → x ≡ get_or xs n x
        → All (λ a. asked a < m) ys → asked x < m
    next_below xs ys n m x low long same is all =
        subst (λ a. asked a < m) (sym (is ∙ same_next xs ys n x low long same)) (all n x (omega (arith, low, long)))

    -- once the next was asked, one more was asked once
    pub asked_more : (xs ys : List A) (n : ℕ) (x y : A) → n < length xs → length xs ≡ length ys → map asked (take n xs) ≡ map (λ a. asked a + 1) (take n ys)
        → drop n xs ≡ drop n ys → x ≡ get_or xs n x → asked y ≡ asked x + 1 → map asked (take (suc n) (set xs n y)) ≡ map (λ a. asked a + 1) (take (suc n) ys)
    asked_more [] ys n x y low long front same is more = absurd (omega (arith, low))
    asked_more (a ∷ xs) [] n x y low long front same is more = absurd (omega (arith, long))
    asked_more (a ∷ xs) (b ∷ ys) zero x y low long front same is more =
        let own : x ≡ b = is ∙ same_next (a ∷ xs) (b ∷ ys) 0 x low long same in
        ap (λ k. k ∷ []) (more ∙ ap (λ z. asked z + 1) own)
    asked_more (a ∷ xs) (b ∷ ys) (suc n) x y low long front same is more =
        let head : asked a ≡ asked b + 1 = cc in
        let tail : map asked (take n xs) ≡ map (λ a. asked a + 1) (take n ys) = cc in
        ap (λ k. k ∷ map asked (take (suc n) (set xs n y))) head
        ∙ ap (λ rest. (asked b + 1) ∷ rest) (asked_more xs ys n x y (omega (arith, low)) (omega (arith, long)) tail same is more)

    -- the advisers before a number were asked once each, and the others stand as they were
    pub record AreAskedUpTo (n : ℕ) (old new : List A) : Type 0 where
      pub long : length new ≡ length old
      pub before : map asked (take n new) ≡ map (λ a. asked a + 1) (take n old)
      pub behind : drop n new ≡ drop n old

    pub one_more : (old new : List A) (n : ℕ) (x y : A) → n < length new → AreAskedUpTo n old new → x ≡ get_or new n x → asked y ≡ asked x + 1
        → AreAskedUpTo (n + 1) old (set new n y)
    one_more old new n x y low kept is more = rw add-one (record {
      long = length-set new n y ∙ kept.long;
      before = asked_more new old n x y low kept.long kept.before kept.behind is more;
      behind = same_behind new old n y kept.long kept.behind;
    })
