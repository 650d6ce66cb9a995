-- One tightening of cells as a shortening of their matrix.
use Rattle.std.proofs.Common.{◌≡◌, ◌≢◌, ⊎_elim, inl, inr, ◌⊎◌, ℕ, ◌+◌, ◌*◌, ◌<◌, ℤ, pos, ◌+ℤ◌, ◌≤ℤ◌, true, false, eqb}
use Rattle.std.proofs.Common.{List, Option, Some, arith, refl, sym, ◌∙◌, ap, subst}
use Rattle.std.proofs.lemmas.Bool.Decides.{eqb_tells}
use Rattle.std.proofs.lemmas.Int.{ints}
use Rattle.linear_cons.specs.Numbers.{Fits128}
use Rattle.num_domain.specs.declared.bound.Bound.{Bound}
use Rattle.octagon_dom.specs.Cells.{AreCellsOf, Matrix, bound, cell, sum_end, tightened, way_over}
use Rattle.octagon_dom.specs.Assignments.{IsModerate}
use Rattle.octagon_dom.specs.Closure.{IsClosed, IsModerateAt, IsModerateEnd, SumsFit}
use Rattle.octagon_dom.specs.Laws.Members.{bound_same}
use Rattle.octagon_dom.proofs.EndSums.{sum_zero_left, sum_zero_right}
use Rattle.octagon_dom.proofs.Moved.{three_fit, two_fit}
use Rattle.octagon_dom.proofs.Ways.{HasNoCycle, HasWays, IsShortened, IsWay, IsNoMore, closed_way, least_within, sum_end_is, sum_end_within}
use Rattle.octagon_dom.proofs.Ways.{within_least_left, within_least_right, within_more, within_some}

-- bounds of two lists at one place: both 0, or both their cells
pub bounds_by : (old new : List (Bound ℤ)) (a b : ℕ) (P : Option ℤ → Option ℤ → Type 0) → (a ≡ b → P (Some (pos 0)) (Some (pos 0)))
    → (a ≢ b → P (cell old (32 * a + b)) (cell new (32 * a + b))) → P (bound old a b) (bound new a b)
bounds_by old new a b P same other = ⊎_elim
    (λ (is : (eqb a b ≡ true) × (a ≡ b)). rw is.0 (same is.1))
    (λ (apart : (eqb a b ≡ false) × (a ≢ b)). rw apart.0 (other apart.1))
    (eqb_tells a b)

-- the sums of a way fit 128 bits, or the way is no shorter than the bound
abbrev pub WaysFit : Matrix → ℕ → ℕ → Option ℤ → Type 0
WaysFit m i j step = (a b : ℕ) → a < 32 → b < 32 → (x s y : ℤ) → m a i ≡ Some x → step ≡ Some s → m j b ≡ Some y
    → (Fits128 (x +ℤ s) × Fits128 (x +ℤ s +ℤ y)) ⊎ IsNoMore (m a b) (x +ℤ s +ℤ y)

module _ (old new : List (Bound ℤ)) (i j : ℕ) (step : Option ℤ) (low : i < 32) (also : j < 32) (are : AreCellsOf
    (tightened old i j step) new) where
  way_of : (a b : ℕ) (z : ℤ) → IsNoMore (way_over old i j step a b) z → IsWay (bound old) i j step a b z
  way_of a b z within =
      let last = sum_end_within (sum_end (bound old a i) step) (bound old j b) z within in
      let first = sum_end_within (bound old a i) step last.0 last.2 in
      let one = first.4 in
      let two = last.4 in
      record {
        into = first.0;
        over = first.1;
        out = last.1;
        first = first.2;
        second = first.3;
        third = last.3;
        sum = omega (arith, ints);
      }

  pub tightened_short : IsShortened (bound old) i j step (bound new)
  tightened_short = record {
    diagonal = λ a h. bound_same new a a refl;
    own = λ a b h g z. bounds_by old new a b (λ was now. IsNoMore was z → IsNoMore now z) (λ same within. within)
        (λ apart within. subst (λ end. IsNoMore end z) (sym (are.each a b h g))
        (within_least_left (cell old (32 * a + b)) (way_over old i j step a b) z within));
    only = λ a b h g z. bounds_by old new a b (λ was now. IsNoMore now z → IsNoMore was z ⊎ IsWay (bound old) i j step a b z)
        (λ same within. inl within)
        (λ apart within. ⊎_elim
        (λ (own : IsNoMore (cell old (32 * a + b)) z). inl own)
        (λ (way : IsNoMore (way_over old i j step a b) z). inr (way_of a b z way))
        (least_within (cell old (32 * a + b)) (way_over old i j step a b) z
        (subst (λ end. IsNoMore end z) (are.each a b h g) within)));
  }

  pub tightened_ways : IsClosed (bound old) → HasNoCycle (bound old) i j step → WaysFit (bound old) i j step
      → HasWays (bound old) i j step (bound new)
  tightened_ways closed cycle fit a b h g z way = ⊎_elim
      (λ (short : Fits128 (first.0 +ℤ over.0) × Fits128 (first.0 +ℤ over.0 +ℤ last.0)). bounds_by old new a b
      (λ was now. IsNoMore now z)
      (λ same.
      let back = closed_way (bound old) closed j i a also low h way.out way.into (way.out +ℤ way.into)
      (subst (λ t. IsNoMore (bound old j t) way.out) (sym same) way.third) way.first (omega (arith, ints)) in
      let round = cycle (way.out +ℤ way.into) way.over back way.second in
      let sum = way.sum in
      omega (arith, ints))
      (λ apart. subst (λ end. IsNoMore end z) (sym (are.each a b h g))
      (within_least_right (cell old (32 * a + b)) (way_over old i j step a b) z
      (subst (λ end. IsNoMore end z) (sym (exact short)) enough))))
      (λ (within : IsNoMore (bound old a b) (first.0 +ℤ over.0 +ℤ last.0)).
      tightened_short.own a b h g z (within_more (bound old a b) (first.0 +ℤ over.0 +ℤ last.0) z within enough))
      (fit a b h g first.0 over.0 last.0 first.1 over.1 last.1)
    where
      first : (x : ℤ) × (bound old a i ≡ Some x) × (x ≤ℤ way.into)
      first = within_some (bound old a i) way.into way.first

      over : (x : ℤ) × (step ≡ Some x) × (x ≤ℤ way.over)
      over = within_some step way.over way.second

      last : (x : ℤ) × (bound old j b ≡ Some x) × (x ≤ℤ way.out)
      last = within_some (bound old j b) way.out way.third

      enough : (first.0 +ℤ over.0 +ℤ last.0) ≤ℤ z
      enough = let one = first.2 in let two = over.2 in let three = last.2 in let sum = way.sum in omega (arith, ints)

      exact : (Fits128 (first.0 +ℤ over.0) × Fits128 (first.0 +ℤ over.0 +ℤ last.0))
          → way_over old i j step a b ≡ Some (first.0 +ℤ over.0 +ℤ last.0)
      exact fits = sum_end_is (sum_end (bound old a i) step) (bound old j b) (first.0 +ℤ over.0) last.0
          (sum_end_is (bound old a i) step first.0 over.0 first.1 over.1 fits.0) last.1 fits.1

  -- the step is a bound then
  pub tightened_step : i ≢ j → ((z : ℤ) → step ≡ Some z → Fits128 z) → (z : ℤ) → IsNoMore step z → IsNoMore (bound new i j) z
  tightened_step apart fit z within =
      let way : way_over old i j step i j ≡ step =
      ap (λ e. sum_end (sum_end e step) (bound old j j)) (bound_same old i i refl)
      ∙ ap (λ e. sum_end e (bound old j j)) (sum_zero_left step fit)
      ∙ ap (λ e. sum_end step e) (bound_same old j j refl) ∙ sum_zero_right step fit in
      bounds_by old new i j (λ was now. IsNoMore now z) (λ same. absurd (apart same))
      (λ other. subst (λ end. IsNoMore end z) (sym (are.each i j low also))
      (within_least_right (cell old (32 * i + j)) (way_over old i j step i j) z
      (subst (λ end. IsNoMore end z) (sym way) within)))

-- moderate bounds to and from a step that is moderate have sums that fit
pub moderate_fits : (m : Matrix) (i j : ℕ) (step : Option ℤ) → IsModerateEnd step → IsModerateAt m i → IsModerateAt m j → SumsFit m i j step
moderate_fits m i j step steps here there a b h g x s y first over last =
    let one : IsModerate x = (here a h).0 x first in
    let two : IsModerate s = steps s over in
    let three : IsModerate y = (there b g).1 y last in
    (two_fit x s one two, three_fit x s y one two three)
