-- A matrix with one more bound and its twin.
use Rattle.std.proofs.Common.{◌≡◌, ◌≢◌, ⊎_elim, inl, inr, ◌⊎◌, ℕ, ℤ, Bool, true, false, eqb, cond, ◌&&◌, int_lt}
use Rattle.std.proofs.Common.{Option, Some, refl, sym, ◌∙◌, ap, subst}
use Rattle.std.proofs.lemmas.Bool.Decides.{eqb_tells}
use Rattle.octagon_dom.specs.Cells.{Matrix, least_end, turned}
use Rattle.octagon_dom.specs.Closure.{with_bound, with_twins}
use Rattle.octagon_dom.proofs.Ways.{IsNoMore, least_is, least_within, within_least_left, within_least_right}

-- the test that both places are the same
both_tell : (a b i j : ℕ) → (((eqb a i && eqb b j) ≡ true) × (a ≡ i) × (b ≡ j))
    ⊎ (((eqb a i && eqb b j) ≡ false) × (a ≡ i → b ≡ j → ⊥))
both_tell a b i j = ⊎_elim
    (λ (row : (eqb a i ≡ true) × (a ≡ i)). ⊎_elim
    (λ (column : (eqb b j ≡ true) × (b ≡ j)). inl (rw (row.0, column.0) refl, row.1, column.1))
    (λ (column : (eqb b j ≡ false) × (b ≢ j)). inr (rw (row.0, column.0) refl, λ one two. column.1 two))
    (eqb_tells b j))
    (λ (row : (eqb a i ≡ false) × (a ≢ i)). inr (rw row.0 refl, λ one two. row.1 one))
    (eqb_tells a i)

-- ---- one bound

with_other : (m : Matrix) (i j : ℕ) (end : Option ℤ) (a b : ℕ) → (a ≡ i → b ≡ j → ⊥) → with_bound m i j end a b ≡ m a b
with_other m i j end a b apart = ⊎_elim
    (λ (same : ((eqb a i && eqb b j) ≡ true) × (a ≡ i) × (b ≡ j)). absurd (apart same.1 same.2))
    (λ (other : ((eqb a i && eqb b j) ≡ false) × (a ≡ i → b ≡ j → ⊥)). ap (λ t. cond t (least_end (m a b) end) (m a b)) other.0)
    (both_tell a b i j)

with_here : (m : Matrix) (i j : ℕ) (end : Option ℤ) → with_bound m i j end i j ≡ least_end (m i j) end
with_here m i j end = ⊎_elim
    (λ (same : ((eqb i i && eqb j j) ≡ true) × (i ≡ i) × (j ≡ j)). ap (λ t. cond t (least_end (m i j) end) (m i j)) same.0)
    (λ (other : ((eqb i i && eqb j j) ≡ false) × (i ≡ i → j ≡ j → ⊥)). absurd (other.1 refl refl))
    (both_tell i j i j)

with_own : (m : Matrix) (i j : ℕ) (end : Option ℤ) (a b : ℕ) (z : ℤ) → IsNoMore (m a b) z → IsNoMore (with_bound m i j end a b) z
with_own m i j end a b z within = chosen (eqb a i && eqb b j)
  where
    chosen : (t : Bool) → IsNoMore (cond t (least_end (m a b) end) (m a b)) z
    chosen true = within_least_left (m a b) end z within
    chosen false = within

with_end : (m : Matrix) (i j : ℕ) (end : Option ℤ) (z : ℤ) → IsNoMore end z → IsNoMore (with_bound m i j end i j) z
with_end m i j end z within = subst (λ e. IsNoMore e z) (sym (with_here m i j end)) (within_least_right (m i j) end z within)

with_only : (m : Matrix) (i j : ℕ) (end : Option ℤ) (a b : ℕ) (z : ℤ) → IsNoMore (with_bound m i j end a b) z
    → IsNoMore (m a b) z ⊎ ((a ≡ i) × (b ≡ j) × IsNoMore end z)
with_only m i j end a b z within = ⊎_elim
    (λ (same : ((eqb a i && eqb b j) ≡ true) × (a ≡ i) × (b ≡ j)).
    let both : IsNoMore (least_end (m a b) end) z =
    subst (λ t. IsNoMore (cond t (least_end (m a b) end) (m a b)) z) same.0 within in
    ⊎_elim
    (λ (own : IsNoMore (m a b) z). inl own)
    (λ (new : IsNoMore end z). inr (same.1, same.2, new))
    (least_within (m a b) end z both))
    (λ (other : ((eqb a i && eqb b j) ≡ false) × (a ≡ i → b ≡ j → ⊥)).
    inl (subst (λ t. IsNoMore (cond t (least_end (m a b) end) (m a b)) z) other.0 within))
    (both_tell a b i j)

-- ---- the bound and its twin

module _ (m : Matrix) (i j : ℕ) (end : Option ℤ) where
  pub twins_own : (a b : ℕ) (z : ℤ) → IsNoMore (m a b) z → IsNoMore (with_twins m i j end a b) z
  twins_own a b z within = with_own (with_bound m i j end) (turned j) (turned i) end a b z (with_own m i j end a b z within)

  pub twins_first : (z : ℤ) → IsNoMore end z → IsNoMore (with_twins m i j end i j) z
  twins_first z within = with_own (with_bound m i j end) (turned j) (turned i) end i j z (with_end m i j end z within)

  pub twins_second : (z : ℤ) → IsNoMore end z → IsNoMore (with_twins m i j end (turned j) (turned i)) z
  twins_second z within = with_end (with_bound m i j end) (turned j) (turned i) end z within

  pub twins_only : (a b : ℕ) (z : ℤ) → IsNoMore (with_twins m i j end a b) z
      → IsNoMore (m a b) z ⊎ (((a ≡ i) × (b ≡ j) × IsNoMore end z) ⊎ ((a ≡ turned j) × (b ≡ turned i) × IsNoMore end z))
  twins_only a b z within = ⊎_elim
      (λ (before : IsNoMore (with_bound m i j end a b) z). ⊎_elim
      (λ (own : IsNoMore (m a b) z). inl own)
      (λ (first : (a ≡ i) × (b ≡ j) × IsNoMore end z). inr (inl first))
      (with_only m i j end a b z before))
      (λ (second : (a ≡ turned j) × (b ≡ turned i) × IsNoMore end z). inr (inr second))
      (with_only (with_bound m i j end) (turned j) (turned i) end a b z within)

  -- every other bound stays
  pub twins_other : (a b : ℕ) → (a ≡ i → b ≡ j → ⊥) → (a ≡ turned j → b ≡ turned i → ⊥) → with_twins m i j end a b ≡ m a b
  twins_other a b one two =
      with_other (with_bound m i j end) (turned j) (turned i) end a b two ∙ with_other m i j end a b one

-- a number that neither bound is within is the bound there
module _ (m : Matrix) (i j : ℕ) (c : ℤ) where
  pub twins_first_is : (IsNoMore (m i j) c → ⊥) → with_twins m i j (Some c) i j ≡ Some c
  twins_first_is past = chosen (eqb i (turned j) && eqb j (turned i))
    where
      here : with_bound m i j (Some c) i j ≡ Some c
      here = with_here m i j (Some c) ∙ least_is (m i j) c past

      again : least_end (Some c) (Some c) ≡ Some c
      again = chosen (int_lt c c)
        where
          chosen : (t : Bool) → Some (cond t c c) ≡ Some c
          chosen true = refl
          chosen false = refl

      chosen : (t : Bool) → cond t (least_end (with_bound m i j (Some c) i j) (Some c)) (with_bound m i j (Some c) i j) ≡ Some c
      chosen true = ap (λ e. least_end e (Some c)) here ∙ again
      chosen false = here

  pub twins_second_is : (IsNoMore (m (turned j) (turned i)) c → ⊥) → with_twins m i j (Some c) (turned j) (turned i) ≡ Some c
  twins_second_is past = with_here (with_bound m i j (Some c)) (turned j) (turned i) (Some c)
      ∙ chosen (eqb (turned j) i && eqb (turned i) j)
    where
      here : least_end (m (turned j) (turned i)) (Some c) ≡ Some c
      here = least_is (m (turned j) (turned i)) c past

      again : least_end (Some c) (Some c) ≡ Some c
      again = chosen (int_lt c c)
        where
          chosen : (t : Bool) → Some (cond t c c) ≡ Some c
          chosen true = refl
          chosen false = refl

      chosen : (t : Bool) → least_end (cond t (least_end (m (turned j) (turned i)) (Some c)) (m (turned j) (turned i))) (Some c) ≡ Some c
      chosen true = ap (λ e. least_end e (Some c)) here ∙ again
      chosen false = here
