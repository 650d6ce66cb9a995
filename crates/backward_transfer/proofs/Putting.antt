-- Trees of a list as plans, elements put in, and lists that grow by one element.
use Rattle.std.proofs.Common.{◌≡◌, ◌⊎◌, inl, inr, ℕ, zero, suc, ◌<◌, List, [], ◌∷◌, ◌++◌, get_or, length, set, take, drop, refl, sym, ap, subst, arith, ⊎_elim}
use Rattle.std.proofs.lemmas.List.{length-map}
use Rattle.std.proofs.Math.Seq.{take-append_seam}
use Rattle.decision_tree.specs.Plans.{plan_of}
use Rattle.decision_tree.specs.declared.affine_rank.AffineRank.{AffineRank}
use Rattle.decision_tree.specs.declared.tree.Tree.{Tree}
use Rattle.backward_transfer.specs.AffineShapes.{tree_at, plans}

pub plans_length : (trees : List (Tree AffineRank)) → length (plans trees) ≡ length trees
plans_length trees = length-map trees plan_of

pub plans_set : (trees : List (Tree AffineRank)) (l : ℕ) (tree : Tree AffineRank) → plans (set trees l tree) ≡ set (plans trees) l (plan_of tree)
plans_set [] l tree = refl
plans_set (x ∷ xs) zero tree = refl
plans_set (x ∷ xs) (suc l) tree = ap (λ t. plan_of x ∷ t) (plans_set xs l tree)

pub plan_at : (trees : List (Tree AffineRank)) (l : ℕ) (d : Tree AffineRank) → l < length trees → plan_of (get_or trees l d) ≡ tree_at (plans trees) l
plan_at [] l d low = absurd (omega arith)
plan_at (x ∷ xs) zero d low = refl
plan_at (x ∷ xs) (suc l) d low = plan_at xs l d (omega arith)

pub plans_more : (trees : List (Tree AffineRank)) (tree : Tree AffineRank) → plans (trees ++ tree ∷ []) ≡ plans trees ++ plan_of tree ∷ []
plans_more [] tree = refl
plans_more (x ∷ xs) tree = ap (λ t. plan_of x ∷ t) (plans_more xs tree)

-- what was written to the whole of a vector's slice are its items
pub written_back : {X : Type 0} (len : ℕ) (new old : List X) → len ≡ length new → take len (new ++ drop (length new) old) ≡ new
written_back len new old same = rw same (take-append_seam new (drop (length new) old))

-- ---- an element put in

pub same_or : (k l : ℕ) → (k ≡ l) ⊎ (k ≡ l → ⊥)
same_or zero zero = inl refl
same_or zero (suc l) = inr (λ same. absurd (omega arith))
same_or (suc k) zero = inr (λ same. absurd (omega arith))
same_or (suc k) (suc l) = ⊎_elim (λ same. inl (ap suc same)) (λ apart. inr (λ same. apart (omega arith))) (same_or k l)

module _ {A : Type 0} (d : A) where
  pub put_same : (list : List A) (l : ℕ) (x : A) → l < length list → get_or (set list l x) l d ≡ x
  put_same [] l x low = absurd (omega arith)
  put_same (y ∷ ys) zero x low = refl
  put_same (y ∷ ys) (suc l) x low = put_same ys l x (omega arith)

  pub put_other : (list : List A) (l k : ℕ) (x : A) → (k ≡ l → ⊥) → get_or (set list l x) k d ≡ get_or list k d
  put_other [] l k x apart = refl
  put_other (y ∷ ys) zero zero x apart = absurd (apart refl)
  put_other (y ∷ ys) zero (suc k) x apart = refl
  put_other (y ∷ ys) (suc l) zero x apart = refl
  put_other (y ∷ ys) (suc l) (suc k) x apart = put_other ys l k x (λ same. apart (ap suc same))

-- ---- one element more

module _ {A : Type 0} (d : A) where
  pub more_before : (list : List A) (x : A) (l : ℕ) → l < length list → get_or (list ++ x ∷ []) l d ≡ get_or list l d
  more_before [] x l low = absurd (omega arith)
  more_before (y ∷ ys) x zero low = refl
  more_before (y ∷ ys) x (suc l) low = more_before ys x l (omega arith)

  pub more_last : (list : List A) (x : A) (l : ℕ) → l ≡ length list → get_or (list ++ x ∷ []) l d ≡ x
  more_last [] x zero last = refl
  more_last [] x (suc l) last = absurd (omega arith)
  more_last (y ∷ ys) x zero last = absurd (omega arith)
  more_last (y ∷ ys) x (suc l) last = more_last ys x l (omega arith)

  pub more_default : (list : List A) (l : ℕ) → 0 < length list → get_or (list ++ d ∷ []) l d ≡ get_or list l d
  more_default [] l some = absurd (omega arith)
  more_default (y ∷ []) zero some = refl
  more_default (y ∷ []) (suc zero) some = refl
  more_default (y ∷ []) (suc (suc l)) some = refl
  more_default (y ∷ z ∷ zs) zero some = refl
  more_default (y ∷ z ∷ zs) (suc l) some = more_default (z ∷ zs) l (omega arith)

  -- what holds of each element so far and of the next one
  pub more_each : (P : ℕ → A → Type 0) (list : List A) (x : A) → ((l : ℕ) → l < length list → P l (get_or list l d)) → P (length list) x
      → (l : ℕ) → l < suc (length list) → P l (get_or (list ++ x ∷ []) l d)
  more_each P list x each here l low =
      ⊎_elim
      (λ (before : l < length list). subst (P l) (sym (more_before list x l before)) (each l before))
      (λ (last : l ≡ length list). subst (λ k. P k (get_or (list ++ x ∷ []) k d)) (sym last) (subst (P (length list)) (sym (more_last list x (length list) refl)) here))
      (before_or l (length list) low)
    where
      before_or : (l n : ℕ) → l < suc n → (l < n) ⊎ (l ≡ n)
      before_or zero zero low = inr refl
      before_or zero (suc n) low = inl (omega arith)
      before_or (suc l) zero low = absurd (omega arith)
      before_or (suc l) (suc n) low = ⊎_elim (λ before. inl (omega arith)) (λ last. inr (omega arith)) (before_or l n (omega arith))
