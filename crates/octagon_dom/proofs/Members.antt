-- What the cells' changes keep of the stores below them.
use Rattle.std.proofs.Common.{◌≡◌, ◌≢◌, ⊎_elim, ℕ, ◌+◌, ◌*◌, ◌/◌, ◌%◌, ◌<◌, ℤ, neg_ℤ, ◌+ℤ◌, ◌-ℤ◌, true, false, eqb, cond}
use Rattle.std.proofs.Common.{List, length, set, Option, Some, arith, refl, sym, ◌∙◌, ap, subst}
use Rattle.std.proofs.lemmas.Bool.Decides.{eqb_tells}
use Rattle.std.proofs.lemmas.Int.{ints}
use Rattle.linear_cons.specs.Bounds.{IsUpTo}
use Rattle.linear_cons.specs.Numbers.{Fits128, number_at}
use Rattle.linear_cons.proofs.EndLaws.{up_to_same, up_to_sum}
use Rattle.linear_cons.proofs.Places.{eqb_apart, number_at-set}
use Rattle.num_domain.specs.declared.bound.Bound.{Bound}
use Rattle.octagon_dom.specs.Cells.{AreCellsOf, IsBelow, Matrix, bound, cell, joined, rise, shifted, signed}
use Rattle.octagon_dom.specs.Cells.{sum_end, tightened, turned, way_over, widened}
use Rattle.octagon_dom.specs.Laws.LeastEnds.{least_up_to_left, least_up_to_right, up_to_least}
use Rattle.octagon_dom.proofs.EndSums.{sum_zero_left, sum_zero_right, up_to_greater_left, up_to_greater_right, up_to_stable_newer}
use Rattle.octagon_dom.proofs.EndSums.{up_to_stable_own}
use Rattle.octagon_dom.specs.Laws.Members.{signed_negative, signed_own}
use Rattle.octagon_dom.specs.Laws.Members.{below_of_cells, bound_same, cell_of_below, signed_even, signed_odd, signed_turned}

-- the same where the cells are those of a matrix
pub below_of_matrix : (matrix : Matrix) (cells : List (Bound ℤ)) (store : List ℤ) → AreCellsOf matrix cells
    → ((i j : ℕ) → i < 32 → j < 32 → i ≢ j → IsUpTo (matrix i j) (signed store i -ℤ signed store j)) → IsBelow cells store
below_of_matrix matrix cells store are each = below_of_cells cells store (λ i j h g apart.
    subst (λ end. IsUpTo end (signed store i -ℤ signed store j)) (sym (are.each i j h g)) (each i j h g apart))

pub matrix_of_below : (matrix : Matrix) (cells : List (Bound ℤ)) (store : List ℤ) → AreCellsOf matrix cells → IsBelow cells store
    → (i j : ℕ) → i < 32 → j < 32 → i ≢ j → IsUpTo (matrix i j) (signed store i -ℤ signed store j)
matrix_of_below matrix cells store are below i j h g apart =
    subst (λ end. IsUpTo end (signed store i -ℤ signed store j)) (are.each i j h g) (cell_of_below cells store below i j h g apart)

-- ---- a new bound

module _ (old new : List (Bound ℤ)) (i j : ℕ) (step : Option ℤ) (low : i < 32) (also : j < 32) (are : AreCellsOf
    (tightened old i j step) new) where
  pub tightened_keeps : (store : List ℤ) → IsBelow old store → IsUpTo step (signed store i -ℤ signed store j) → IsBelow new store
  tightened_keeps store below met = below_of_matrix (tightened old i j step) new store are (λ a b h g apart.
      up_to_least (cell old (32 * a + b)) (way_over old i j step a b) _ (cell_of_below old store below a b h g apart)
      (up_to_same (way_over old i j step a b)
      (signed store a -ℤ signed store i +ℤ (signed store i -ℤ signed store j) +ℤ (signed store j -ℤ signed store b)) _ (omega (arith, ints))
      (up_to_sum (sum_end (bound old a i) step) (bound old j b) _ _
      (up_to_sum (bound old a i) step _ _ (below a i h low) met) (below j b also g))))

  pub tightened_inside : (store : List ℤ) → IsBelow new store → IsBelow old store
  tightened_inside store below = below_of_cells old store (λ a b h g apart.
      least_up_to_left (cell old (32 * a + b)) (way_over old i j step a b) _
      (matrix_of_below (tightened old i j step) new store are below a b h g apart))

  pub tightened_meets : i ≢ j → ((z : ℤ) → step ≡ Some z → Fits128 z) → (store : List ℤ) → IsBelow new store
      → IsUpTo step (signed store i -ℤ signed store j)
  tightened_meets apart fit store below =
      let way : way_over old i j step i j ≡ step =
      ap (λ e. sum_end (sum_end e step) (bound old j j)) (bound_same old i i refl)
      ∙ ap (λ e. sum_end e (bound old j j)) (sum_zero_left step fit)
      ∙ ap (λ e. sum_end step e) (bound_same old j j refl) ∙ sum_zero_right step fit in
      subst (λ end. IsUpTo end (signed store i -ℤ signed store j)) way
      (least_up_to_right (cell old (32 * i + j)) (way_over old i j step i j) _
      (matrix_of_below (tightened old i j step) new store are below i j low also apart))

-- ---- a bound's twin

-- the twin of a bound is the bound between the other signed places, turned round
pub twin_holds : (store : List ℤ) (i j k l : ℕ) (step : Option ℤ) → k ≡ turned j → l ≡ turned i
    → IsUpTo step (signed store i -ℤ signed store j) → IsUpTo step (signed store k -ℤ signed store l)
twin_holds store i j k l step is also holds =
    let one : signed store k ≡ neg_ℤ (signed store j) = ap (signed store) is ∙ signed_turned store j in
    let other : signed store l ≡ neg_ℤ (signed store i) = ap (signed store) also ∙ signed_turned store i in
    up_to_same step _ _ (rw (one, other) (omega (arith, ints))) holds

-- ---- a place shifted

module _ (store : List ℤ) (place : ℕ) (z : ℤ) (long : length store ≡ 16) (low : place < 16) where
  -- the signed places of every other place stay
  pub signed_other : (i : ℕ) → i / 2 ≢ place → signed (set store place z) i ≡ signed store i
  signed_other i apart =
      let inside : place < length store = omega (arith, long) in
      let same : number_at (set store place z) (i / 2) ≡ number_at store (i / 2) =
      number_at-set store place (i / 2) z inside ∙ ap (λ t. cond t z (number_at store (i / 2))) (eqb_apart (i / 2) place apart) in
      ap (λ x. cond (eqb (i % 2) 0) x (neg_ℤ x)) same

  pub number_here : number_at (set store place z) place ≡ z
  number_here =
      let inside : place < length store = omega (arith, long) in
      number_at-set store place place z inside ∙ ⊎_elim
      (λ (same : (eqb place place ≡ true) × (place ≡ place)). ap (λ t. cond t z (number_at store place)) same.0)
      (λ (apart : (eqb place place ≡ false) × (place ≢ place)). absurd (apart.1 refl))
      (eqb_tells place place)

  pub signed_up : signed (set store place z) (2 * place) ≡ z
  signed_up =
      let even : (2 * place) % 2 ≡ 0 = omega arith in
      let half : (2 * place) / 2 ≡ place = omega arith in
      signed_even (set store place z) (2 * place) even ∙ ap (number_at (set store place z)) half ∙ number_here

  pub signed_down : signed (set store place z) (2 * place + 1) ≡ neg_ℤ z
  signed_down =
      let odd : (2 * place + 1) % 2 ≡ 1 = omega arith in
      let half : (2 * place + 1) / 2 ≡ place = omega arith in
      signed_odd (set store place z) (2 * place + 1) odd ∙ ap (λ p. neg_ℤ (number_at (set store place z) p)) half ∙ ap neg_ℤ number_here

  pub rise_up_to : (up down : Option ℤ) → IsUpTo up (z -ℤ number_at store place) → IsUpTo down (number_at store place -ℤ z) → (i : ℕ)
      → IsUpTo (rise place up down i) (signed (set store place z) i -ℤ signed store i)
  rise_up_to up down above below i = ⊎_elim
      (λ (even : (eqb i (2 * place) ≡ true) × (i ≡ 2 * place)).
      let now : signed (set store place z) i ≡ z = ap (signed (set store place z)) even.1 ∙ signed_up in
      let was : signed store i ≡ number_at store place = ap (signed store) even.1 ∙ signed_own store place in
      rw even.0 (up_to_same up _ _ (rw (now, was) refl) above))
      (λ (apart : (eqb i (2 * place) ≡ false) × (i ≢ 2 * place)). ⊎_elim
      (λ (odd : (eqb i (2 * place + 1) ≡ true) × (i ≡ 2 * place + 1)).
      let now : signed (set store place z) i ≡ neg_ℤ z = ap (signed (set store place z)) odd.1 ∙ signed_down in
      let was : signed store i ≡ neg_ℤ (number_at store place) = ap (signed store) odd.1 ∙ signed_negative store place in
      rw (apart.0, odd.0) (up_to_same down _ _ (rw (now, was) (omega (arith, ints))) below))
      (λ (other : (eqb i (2 * place + 1) ≡ false) × (i ≢ 2 * place + 1)).
      let place_apart : i / 2 ≢ place = let ne = apart.1 in let also = other.1 in λ same. omega arith in
      let kept = signed_other i place_apart in
      rw (apart.0, other.0) (omega (arith, ints)))
      (eqb_tells i (2 * place + 1)))
      (eqb_tells i (2 * place))

  pub shifted_keeps : (up down : Option ℤ) (old new : List (Bound ℤ)) → AreCellsOf (shifted old place up down) new
      → IsUpTo up (z -ℤ number_at store place) → IsUpTo down (number_at store place -ℤ z) → IsBelow old store
      → IsBelow new (set store place z)
  shifted_keeps up down old new are above below old_below = below_of_matrix (shifted old place up down) new (set store place z) are
      (λ i j h g apart.
      let turned_now = signed_turned (set store place z) j in
      let turned_was = signed_turned store j in
      up_to_same (shifted old place up down i j)
      (signed (set store place z) i -ℤ signed store i +ℤ (signed store i -ℤ signed store j)
      +ℤ (signed (set store place z) (turned j) -ℤ signed store (turned j))) _ (omega (arith, ints))
      (up_to_sum (sum_end (rise place up down i) (cell old (32 * i + j))) (rise place up down (turned j)) _ _
      (up_to_sum (rise place up down i) (cell old (32 * i + j)) _ _ (rise_up_to up down above below i)
      (cell_of_below old store old_below i j h g apart)) (rise_up_to up down above below (turned j))))

-- ---- two matrices

pub joined_own : (own other new : List (Bound ℤ)) → AreCellsOf (joined own other) new → (store : List ℤ) → IsBelow own store
    → IsBelow new store
joined_own own other new are store below = below_of_matrix (joined own other) new store are (λ i j h g apart.
    up_to_greater_left (cell own (32 * i + j)) (cell other (32 * i + j)) _ (cell_of_below own store below i j h g apart))

pub joined_other : (own other new : List (Bound ℤ)) → AreCellsOf (joined own other) new → (store : List ℤ) → IsBelow other store
    → IsBelow new store
joined_other own other new are store below = below_of_matrix (joined own other) new store are (λ i j h g apart.
    up_to_greater_right (cell own (32 * i + j)) (cell other (32 * i + j)) _ (cell_of_below other store below i j h g apart))

pub widened_own : (own newer new : List (Bound ℤ)) → AreCellsOf (widened own newer) new → (store : List ℤ) → IsBelow own store
    → IsBelow new store
widened_own own newer new are store below = below_of_matrix (widened own newer) new store are (λ i j h g apart.
    up_to_stable_own (cell own (32 * i + j)) (cell newer (32 * i + j)) _ (cell_of_below own store below i j h g apart))

pub widened_newer : (own newer new : List (Bound ℤ)) → AreCellsOf (widened own newer) new → (store : List ℤ) → IsBelow newer store
    → IsBelow new store
widened_newer own newer new are store below = below_of_matrix (widened own newer) new store are (λ i j h g apart.
    up_to_stable_newer (cell own (32 * i + j)) (cell newer (32 * i + j)) _ (cell_of_below newer store below i j h g apart))
