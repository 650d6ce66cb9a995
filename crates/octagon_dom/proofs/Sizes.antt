-- How large the bounds become that a new bound shortens.
use Rattle.std.proofs.Common.{◌≡◌, ℕ, ◌+◌, ◌*◌, ◌^◌, ◌<◌, ◌≤◌, ℤ, ◌+ℤ◌, Bool, true, false, cond, int_lt, unsigned_abs}
use Rattle.std.proofs.Common.{List, Option, None, Some, arith, refl, subst, sym}
use Rattle.std.proofs.lemmas.Int.{ints}
use Rattle.num_domain.specs.declared.bound.Bound.{Bound}
use Rattle.octagon_dom.specs.Cells.{AreCellsOf, bound, cell, least_end, sum_end, tightened, way_over}
use Rattle.octagon_dom.specs.Closure.{AreSized, IsModerateAt, IsSizedEnd}
use Rattle.octagon_dom.proofs.Shortened.{bounds_by}
use Rattle.octagon_dom.proofs.StatedLaws.{exact_is}

least_sized : (k : ℕ) (left right : Option ℤ) → IsSizedEnd k left → IsSizedEnd k right → IsSizedEnd k (least_end left right)
least_sized k None right one two z is = two z is
least_sized k (Some a) None one two z is = one z is
least_sized k (Some a) (Some b) one two z is = chosen (int_lt b a) is
  where
    chosen : (t : Bool) → Some (cond t b a) ≡ Some z → unsigned_abs z ≤ k
    chosen true is = two z is
    chosen false is = one z is

sum_sized : (k m : ℕ) (left right : Option ℤ) → IsSizedEnd k left → IsSizedEnd m right → IsSizedEnd (k + m) (sum_end left right)
sum_sized k m None right one two z is = absurd (cc)
sum_sized k m (Some a) None one two z is = absurd (cc)
sum_sized k m (Some a) (Some b) one two z is =
    let first = one a refl in
    let second = two b refl in
    let same : z ≡ a +ℤ b = exact_is (a +ℤ b) z is in
    subst (λ t. unsigned_abs t ≤ k + m) (sym same) (omega (arith, ints))

module _ (old new : List (Bound ℤ)) (i j : ℕ) (step : Option ℤ) (k : ℕ) (are : AreCellsOf (tightened old i j step) new) (low : i < 32) (also : j < 32)
    (bounds : AreSized k old) (steps : IsSizedEnd k step) where
  way_sized : (a b : ℕ) → a < 32 → b < 32 → IsSizedEnd (k + k + k) (way_over old i j step a b)
  way_sized a b h g = sum_sized (k + k) k (sum_end (bound old a i) step) (bound old j b)
      (sum_sized k k (bound old a i) step (bounds a i h low) steps) (bounds j b also g)

  pub tightened_sized : AreSized (k + k + k) new
  tightened_sized a b h g = bounds_by old new a b (λ was now. IsSizedEnd k was → IsSizedEnd (k + k + k) now)
      (λ same sized z is. let own = sized z is in omega arith)
      (λ apart sized. subst (IsSizedEnd (k + k + k)) (sym (are.each a b h g))
      (least_sized (k + k + k) (cell old (32 * a + b)) (way_over old i j step a b) (λ z is. let own = sized z is in omega arith)
      (way_sized a b h g)))
      (bounds a b h g)

pub sized_moderate : (k : ℕ) (cells : List (Bound ℤ)) (i : ℕ) → k ≤ 2 ^ 125 → AreSized k cells → i < 32 → IsModerateAt (bound cells) i
sized_moderate k cells i few sized low a h = (
  λ z is. let own = sized a i h low z is in omega arith,
  λ z is. let own = sized i a low h z is in omega arith,
)
