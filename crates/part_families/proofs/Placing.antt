-- Families at their numbers.
use Rattle.std.proofs.Common.{◌≡◌, ℕ, suc, ◌+◌, List, [], ◌∷◌, ◌++◌, length, refl, subst, arith}
use Rattle.decision_tree.specs.declared.affine_rank.AffineRank.{AffineRank}
use Rattle.decision_tree.specs.declared.family.Family.{Family}
use Rattle.tree_check.specs.Checking.{families_of}
use Rattle.tree_support.specs.Setting.{Trees}
use Rattle.part_families.specs.Families.{AreNumberedFrom, trees_of}
use Rattle.part_families.specs.Showing.{AreAt}

-- the front of a list that is there, and what is behind it
pub front_at : (families : ℕ → Trees AffineRank) (k : ℕ) (xs ys : List (Family AffineRank)) → AreAt families k (xs ++ ys) → AreAt families k xs
front_at families k [] ys at = tt
front_at families k (x ∷ xs) ys at = (at.0, front_at families (suc k) xs ys at.1)

pub rest_at : (families : ℕ → Trees AffineRank) (k n : ℕ) (xs ys : List (Family AffineRank)) → k + length xs ≡ n → AreAt families k (xs ++ ys)
    → AreAt families n ys
rest_at families k n [] ys is at = subst (λ m. AreAt families m ys) (let e : k ≡ n = omega (arith, is) in e) at
rest_at families k n (x ∷ xs) ys is at = rest_at families (suc k) n xs ys (omega (arith, is)) at.1

-- one list behind another is numbered where both are
pub numbered_behind : (k n : ℕ) (xs ys : List (Family AffineRank)) → k + length xs ≡ n → AreNumberedFrom k xs → AreNumberedFrom n ys
    → AreNumberedFrom k (xs ++ ys)
numbered_behind k n [] ys is first second = subst (λ m. AreNumberedFrom m ys) (let e : n ≡ k = omega (arith, is) in e) second
numbered_behind k n (x ∷ xs) ys is first second = (first.0, numbered_behind (suc k) n xs ys (omega (arith, is)) first.1 second)

-- the families of a list have the numbers of their places
at_places : (families : ℕ → Trees AffineRank) (k : ℕ) (xs : List (Family AffineRank)) → ((i : ℕ) → families (k + i) ≡ families_of xs i) → AreAt families k xs
at_places families k [] each = tt
at_places families k (x ∷ xs) each = (
  subst (λ n. families n ≡ trees_of x) (let e : k + 0 ≡ k = omega (arith) in e) (each 0),
  at_places families (suc k) xs (λ i. subst (λ n. families n ≡ families_of xs i) (let e : k + suc i ≡ suc k + i = omega (arith) in e) (each (suc i))),
)

pub own_places : (xs : List (Family AffineRank)) → AreAt (families_of xs) 0 xs
own_places xs = at_places (families_of xs) 0 xs (λ i. subst (λ n. families_of xs n ≡ families_of xs i) (let e : i ≡ 0 + i = omega (arith) in e) refl)
