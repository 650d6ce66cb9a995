-- A cell lowered to a new bound, and a bound against a cell.
use Rattle.std.proofs.Common.{◌≡◌, ◌≢◌, ⊎_elim, ℕ, ◌+◌, ◌*◌, ◌<◌, ℤ, ◌-ℤ◌, ◌≤ℤ◌, true, false, eqb, List, length, set, Option, None, Some, arith, refl, sym, subst, ◌∙◌}
use Rattle.std.proofs.Common.{get_or-set_same, get_or-set_other}
use Rattle.std.proofs.lemmas.Bool.Decides.{eqb_tells}
use Rattle.std.proofs.lemmas.Int.{ints}
use Rattle.linear_cons.specs.Bounds.{IsUpTo}
use Rattle.num_domain.specs.declared.bound.Bound.{Bound}
use Rattle.num_domain.specs.Ends.{some_end}
use Rattle.octagon_dom.specs.Cells.{IsBelow, IsWithin, cell, least_end, signed}
use Rattle.octagon_dom.specs.Laws.LeastEnds.{least_up_to_left, up_to_least}
use Rattle.octagon_dom.specs.Laws.Members.{below_of_cells, cell_of_below}

module _ (old : List (Bound ℤ)) (i j : ℕ) (end : Bound ℤ) (step : Option ℤ) (low : i < 32) (also : j < 32) (long : length old ≡ 1024)
    (is : some_end end ≡ least_end (cell old (32 * i + j)) step) where
  here : cell (set old (32 * i + j) end) (32 * i + j) ≡ least_end (cell old (32 * i + j)) step
  here = let lt : 32 * i + j < length old = omega (arith, long, low, also) in rw get_or-set_same is

  other : (m : ℕ) → m ≢ 32 * i + j → cell (set old (32 * i + j) end) m ≡ cell old m
  other m ne = rw get_or-set_other refl

  pub lowered_keeps : (store : List ℤ) → IsBelow old store → IsUpTo step (signed store i -ℤ signed store j) → IsBelow (set old (32 * i + j) end) store
  lowered_keeps store below met = below_of_cells (set old (32 * i + j) end) store (λ a b h g apart. ⊎_elim
      (λ (same : (eqb (32 * a + b) (32 * i + j) ≡ true) × (32 * a + b ≡ 32 * i + j)).
      let at = same.1 in
      let row : a ≡ i = omega (arith, at, g, also) in
      let column : b ≡ j = omega (arith, at, g, also) in
      let own : i ≢ j = λ one. apart (row ∙ one ∙ sym column) in
      rw (row, column) (subst (λ e. IsUpTo e (signed store i -ℤ signed store j)) (sym here)
      (up_to_least (cell old (32 * i + j)) step _ (cell_of_below old store below i j low also own) met)))
      (λ (ne : (eqb (32 * a + b) (32 * i + j) ≡ false) × (32 * a + b ≢ 32 * i + j)).
      subst (λ e. IsUpTo e (signed store a -ℤ signed store b)) (sym (other (32 * a + b) ne.1)) (cell_of_below old store below a b h g apart))
      (eqb_tells (32 * a + b) (32 * i + j)))

  pub lowered_inside : (store : List ℤ) → IsBelow (set old (32 * i + j) end) store → IsBelow old store
  lowered_inside store below = below_of_cells old store (λ a b h g apart. ⊎_elim
      (λ (same : (eqb (32 * a + b) (32 * i + j) ≡ true) × (32 * a + b ≡ 32 * i + j)).
      let at = same.1 in
      let row : a ≡ i = omega (arith, at, g, also) in
      let column : b ≡ j = omega (arith, at, g, also) in
      let own : i ≢ j = λ one. apart (row ∙ one ∙ sym column) in
      rw (row, column) (least_up_to_left (cell old (32 * i + j)) step _
      (subst (λ e. IsUpTo e (signed store i -ℤ signed store j)) here (cell_of_below (set old (32 * i + j) end) store below i j low also own))))
      (λ (ne : (eqb (32 * a + b) (32 * i + j) ≡ false) × (32 * a + b ≢ 32 * i + j)).
      subst (λ e. IsUpTo e (signed store a -ℤ signed store b)) (other (32 * a + b) ne.1) (cell_of_below (set old (32 * i + j) end) store below a b h g apart))
      (eqb_tells (32 * a + b) (32 * i + j)))

-- what keeps to an end keeps to one that is not below it
pub within_kept : (end most : Option ℤ) (z : ℤ) → IsWithin end most → IsUpTo end z → (c : ℤ) × (most ≡ Some c) × (z ≤ℤ c)
within_kept None most z within up = absurd within
within_kept (Some a) None z within up = absurd within
within_kept (Some a) (Some b) z within up = (b, refl, omega (arith, ints))
