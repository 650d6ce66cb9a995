-- The ends and the rows of bounds.
use Rattle.std.proofs.Common.{◌≡◌, ◌≢◌, ⊎_elim, ℕ, zero, suc, ◌+◌, ◌*◌, ◌/◌, ◌%◌, ◌<◌, ◌≤◌, ℤ, pos, negsuc, neg_ℤ, ◌+ℤ◌, ◌-ℤ◌, ◌*ℤ◌, ◌≤ℤ◌}
use Rattle.std.proofs.Common.{Bool, true, false, eqb, cond}
use Rattle.std.proofs.Common.{List, [], All, get_or, Option, None, Some, arith, refl, sym, ◌∙◌, ap, subst}
use Rattle.std.proofs.lemmas.Bool.Decides.{eqb_tells}
use Rattle.std.proofs.lemmas.Int.{ints}
use Rattle.std.proofs.lemmas.List.Elements.{All-append}
use Rattle.std.proofs.lemmas.List.FromFn.{get_or-map-range_with_len}
use Rattle.linear_cons.specs.Bounds.{IsFrom, IsUpTo, LiesIn}
use Rattle.linear_cons.specs.Functions.{value_at, variable_at}
use Rattle.linear_cons.specs.LinearForm.{products_below}
use Rattle.linear_cons.specs.Numbers.{at_places, floor_by, number_at}
use Rattle.linear_cons.specs.Rows.{MeetsAll}
use Rattle.linear_cons.proofs.EndLaws.{up_to_same}
use Rattle.linear_cons.proofs.Forms.{products_difference, products_multiple, products_unit}
use Rattle.linear_cons.proofs.Places.{number_at_places}
use Rattle.linear_cons.proofs.Ring.{mul_one, mul_zero, one_mul}
use Rattle.linear_cons.proofs.Sums.{value_is}
use Rattle.num_domain.specs.declared.bound.Bound.{Bound}
use Rattle.num_domain.proofs.LineLaws.{all_none, all_one, lines_met}
use Rattle.octagon_dom.specs.declared.octagon.Octagon.{Octagon}
use Rattle.octagon_dom.specs.Cells.{IsBelow, bound, least_end, signed, turned}
use Rattle.octagon_dom.specs.Octagons.{Has, KeepsToEnds, bound_line, bounds_of, bounds_of_cells, ends_at, is_empty_octagon, is_listed}
use Rattle.octagon_dom.specs.Octagons.{lines_at, lines_below, lines_of, lower_half, rows_of}
use Rattle.octagon_dom.specs.Octagons.{rows_of_cells, signed_factor, upper_half}
use Rattle.octagon_dom.specs.Laws.LeastEnds.{up_to_least}
use Rattle.octagon_dom.specs.Laws.Members.{signed_even, signed_negative, signed_odd, signed_own, signed_turned, turned_even, turned_low}
use Rattle.octagon_dom.specs.Laws.Members.{turned_odd}
use Rattle.octagon_dom.specs.Laws.Voids.{void_below_none}

pub empty_none : (set : Octagon) (store : List ℤ) → is_empty_octagon set ≡ true → Has set store → ⊥
empty_none set store empty has = void_below_none 1024 set.cells.items store (omega arith) empty has

-- ---- ends

half_up_to : (c x : ℤ) → (x +ℤ x) ≤ℤ c → x ≤ℤ floor_by 2 c
half_up_to (pos n) x h = omega (arith, ints)
half_up_to (negsuc n) x h = omega (arith, ints)

upper_half_holds : (end : Option ℤ) (x : ℤ) → IsUpTo end (x +ℤ x) → IsUpTo (upper_half end) x
upper_half_holds None x h = tt
upper_half_holds (Some c) x h = half_up_to c x h

lower_half_holds : (end : Option ℤ) (x : ℤ) → IsUpTo end (neg_ℤ x +ℤ neg_ℤ x) → IsFrom (lower_half end) x
lower_half_holds None x h = tt
lower_half_holds (Some c) x h = let half = half_up_to c (neg_ℤ x) h in omega (arith, ints)

pub ends_of_place : (cells : List (Bound ℤ)) (place : ℕ) → place < 16 → get_or (bounds_of_cells cells).ends place (None, None)
    ≡ ends_at cells place
unfolding bounds_of_cells
ends_of_place cells place low = get_or-map-range_with_len (ends_at cells) 0 16 place place (None, None) low (omega arith)

-- a store that keeps to the bounds of one place lies between the ends
pub ends_lie : (cells : List (Bound ℤ)) (store : List ℤ) → KeepsToEnds cells store → LiesIn (bounds_of_cells cells) store
ends_lie cells store keeps = record {
  lower = λ p h.
      let up = signed_own store p in
      let down = signed_negative store p in
      let odd : (2 * p + 1) % 2 ≡ 1 = omega arith in
      let other : turned (2 * p + 1) ≡ 2 * p = turned_odd (2 * p + 1) odd ∙ (omega arith) in
      let kept = rw other at (keeps (2 * p + 1) (omega arith)) in
      subst (λ (ends : Option ℤ × Option ℤ). IsFrom ends.0 (number_at store p)) (sym (ends_of_place cells p h))
      (lower_half_holds (bound cells (2 * p + 1) (2 * p)) (number_at store p)
      (up_to_same (bound cells (2 * p + 1) (2 * p)) _ _ (omega (arith, ints)) kept));
  upper = λ p h.
      let up = signed_own store p in
      let down = signed_negative store p in
      let even : (2 * p) % 2 ≡ 0 = omega arith in
      let kept = rw (turned_even (2 * p) even) at (keeps (2 * p) (omega arith)) in
      subst (λ (ends : Option ℤ × Option ℤ). IsUpTo ends.1 (number_at store p)) (sym (ends_of_place cells p h))
      (upper_half_holds (bound cells (2 * p) (2 * p + 1)) (number_at store p)
      (up_to_same (bound cells (2 * p) (2 * p + 1)) _ _ (omega (arith, ints)) kept));
}

pub below_lies : (cells : List (Bound ℤ)) (store : List ℤ) → IsBelow cells store → LiesIn (bounds_of_cells cells) store
below_lies cells store below = ends_lie cells store (λ i h. below i (turned i) h (turned_low i h))

-- each member lies between the ends
pub bounds_lie : (set : Octagon) (store : List ℤ) → Has set store → LiesIn (bounds_of set) store
bounds_lie set store has = below_lies set.cells.items store has

-- ---- rows

-- the products of a signed place's coefficients sum to the signed place
signed_products : (i : ℕ) (store : List ℤ) → i < 32 → products_below 16 (at_places (signed_factor i)) store ≡ signed store i
signed_products i store low = ⊎_elim
    (λ (even : (eqb (i % 2) 0 ≡ true) × (i % 2 ≡ 0)).
    multiples (pos 1) (rw even.0 refl) ∙ one_mul (number_at store (i / 2)) ∙ sym (signed_even store i even.1))
    (λ (odd : (eqb (i % 2) 0 ≡ false) × (i % 2 ≢ 0)).
    let is : i % 2 ≡ 1 = let ne = odd.1 in omega arith in
    let product : negsuc 0 *ℤ number_at store (i / 2) ≡ neg_ℤ (number_at store (i / 2)) = omega (arith, ints) in
    multiples (negsuc 0) (rw odd.0 refl) ∙ product ∙ sym (signed_odd store i is))
    (eqb_tells (i % 2) 0)
  where
    inside : i / 2 < 16
    inside = omega arith

    multiples : (by : ℤ) → cond (eqb (i % 2) 0) (pos 1) (negsuc 0) ≡ by
        → products_below 16 (at_places (signed_factor i)) store ≡ by *ℤ number_at store (i / 2)
    multiples by is =
        let unit = products_unit 16 (i / 2) (variable_at (i / 2)).coef store inside
        (λ p h. number_at_places (λ p. cond (eqb p (i / 2)) (pos 1) (pos 0)) p h) in
        products_multiple 16 (at_places (signed_factor i)) (variable_at (i / 2)).coef store by
        (λ p h. rw (
          number_at_places (signed_factor i) p h,
          number_at_places (λ p. cond (eqb p (i / 2)) (pos 1) (pos 0)) p h,
        ) (⊎_elim
        (λ (same : (eqb p (i / 2) ≡ true) × (p ≡ i / 2)). rw same.0 (is ∙ sym (mul_one by)))
        (λ (apart : (eqb p (i / 2) ≡ false) × (p ≢ i / 2)). rw apart.0 (sym (mul_zero by)))
        (eqb_tells p (i / 2))))
        ∙ ap (λ t. by *ℤ t) unit

-- the value of a bound's line
pub line_value : (i j : ℕ) (c : ℤ) (store : List ℤ) → i < 32 → j < 32
    → value_at (bound_line i j c) store ≡ signed store j -ℤ signed store i +ℤ c
line_value i j c store low also =
    let difference = products_difference 16 (bound_line i j c).coef (at_places (signed_factor j)) (at_places (signed_factor i)) store
    (λ p h. number_at_places (λ place. signed_factor j place -ℤ signed_factor i place) p h
    ∙ sym (rw (number_at_places (signed_factor j) p h, number_at_places (signed_factor i) p h) refl)) in
    let one = signed_products j store also in
    let other = signed_products i store low in
    rw (value_is (bound_line i j c).coef c store, difference, one, other) refl

line_met : (i j : ℕ) (end : Option ℤ) (store : List ℤ) → i < 32 → j < 32 → IsUpTo end (signed store i -ℤ signed store j)
    → All (λ a. pos 0 ≤ℤ value_at a store) (lines_of i j end)
line_met i j None store low also holds = all_none (λ a. pos 0 ≤ℤ value_at a store)
line_met i j (Some c) store low also holds =
    let value = line_value i j c store low also in
    all_one (λ a. pos 0 ≤ℤ value_at a store) (bound_line i j c) (rw value (omega (arith, ints)))

-- a store that keeps to a bound keeps to its twin
pub twin_bound : (cells : List (Bound ℤ)) (i j : ℕ) (store : List ℤ) → i < 32 → j < 32 → IsBelow cells store
    → IsUpTo (bound cells (turned j) (turned i)) (signed store i -ℤ signed store j)
twin_bound cells i j store low also below =
    let one = signed_turned store i in
    let other = signed_turned store j in
    up_to_same (bound cells (turned j) (turned i)) _ _ (omega (arith, ints)) (below (turned j) (turned i) (turned_low j also)
    (turned_low i low))

at_met : (cells : List (Bound ℤ)) (i j : ℕ) (store : List ℤ) → i < 32 → j < 32 → IsBelow cells store
    → All (λ a. pos 0 ≤ℤ value_at a store) (lines_at cells i j)
at_met cells i j store low also below = listed (is_listed i j)
  where
    holds : IsUpTo (least_end (bound cells i j) (bound cells (turned j) (turned i))) (signed store i -ℤ signed store j)
    holds = up_to_least (bound cells i j) (bound cells (turned j) (turned i)) _ (below i j low also)
        (twin_bound cells i j store low also below)

    listed : (b : Bool) → All (λ a. pos 0 ≤ℤ value_at a store) (cond b (lines_of i j (least_end (bound cells i j) (bound cells
        (turned j) (turned i)))) [])
    listed true = line_met i j (least_end (bound cells i j) (bound cells (turned j) (turned i))) store low also holds
    listed false = all_none (λ a. pos 0 ≤ℤ value_at a store)

below_met : (n : ℕ) (cells : List (Bound ℤ)) (store : List ℤ) → n ≤ 1024 → IsBelow cells store
    → All (λ a. pos 0 ≤ℤ value_at a store) (lines_below n cells)
unfolding lines_below
below_met zero cells store few below = all_none (λ a. pos 0 ≤ℤ value_at a store)
below_met (suc n) cells store few below =
    All-append (λ a. pos 0 ≤ℤ value_at a store) (lines_below n cells) (lines_at cells (n / 32) (n % 32))
    (below_met n cells store (omega arith) below)
    (at_met cells (n / 32) (n % 32) store (omega arith) (omega arith) below)

pub cells_met : (cells : List (Bound ℤ)) (store : List ℤ) → IsBelow cells store → MeetsAll store (rows_of_cells cells)
unfolding rows_of_cells
cells_met cells store below = lines_met (lines_below 1024 cells) store (below_met 1024 cells store (omega arith) below)

-- each member meets the rows of the bounds
pub rows_met : (set : Octagon) (store : List ℤ) → Has set store → MeetsAll store (rows_of set)
rows_met set store has = cells_met set.cells.items store has
