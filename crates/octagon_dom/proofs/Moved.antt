-- The stores below moved bounds come from those below the old ones.
use Rattle.std.proofs.Common.{◌≡◌, ◌≢◌, ⊎_elim, ℕ, ◌+◌, ◌*◌, ◌/◌, ◌<◌, ℤ, pos, neg_ℤ, ◌+ℤ◌, ◌-ℤ◌, true, false, eqb}
use Rattle.std.proofs.Common.{List, length, set, length-set, set-set, Option, None, Some, arith, refl, sym, ◌∙◌, ap, subst}
use Rattle.std.proofs.lemmas.Bool.Decides.{eqb_tells}
use Rattle.std.proofs.lemmas.Int.{ints}
use Rattle.linear_cons.specs.declared.bounds.Linear.{Linear}
use Rattle.linear_cons.specs.Bounds.{Covers, IsUpTo}
use Rattle.linear_cons.specs.Functions.{value_at}
use Rattle.linear_cons.specs.Numbers.{Fits128, number_at}
use Rattle.linear_cons.proofs.EndLaws.{up_to_same}
use Rattle.linear_cons.proofs.KnownEnds.{known_end}
use Rattle.num_domain.specs.declared.bound.Bound.{Bound}
use Rattle.octagon_dom.specs.Assignments.{ComesFromAssigned, HasModerateBounds, IsModerate, IsStepOf, above_terms, below_terms}
use Rattle.octagon_dom.specs.Cells.{AreCellsOf, IsBelow, cell, exchanged, flipped, negative_end, rise, shifted, signed, sum_end, turned}
use Rattle.octagon_dom.specs.Closure.{CanMove}
use Rattle.octagon_dom.specs.Terms.{AreTwoTerms, IsOneTerm}
use Rattle.octagon_dom.specs.Laws.Members.{below_of_cells, bound_apart, bound_same, signed_negative, signed_own, signed_turned}
use Rattle.octagon_dom.proofs.Assigned.{one_value}
use Rattle.octagon_dom.proofs.Exchanging.{exchanged_low, exchanged_twice, signed_exchanged}
use Rattle.octagon_dom.proofs.Members.{matrix_of_below, number_here, signed_down, signed_other, signed_up}

pub two_fit : (a b : ℤ) → IsModerate a → IsModerate b → Fits128 (a +ℤ b)
two_fit a b one two = omega (arith, ints)

pub three_fit : (a b c : ℤ) → IsModerate a → IsModerate b → IsModerate c → Fits128 (a +ℤ b +ℤ c)
three_fit a b c one two three = omega (arith, ints)

-- ---- a place shifted by one number

module _ (store : List ℤ) (place : ℕ) (step : ℤ) (long : length store ≡ 16) (low : place < 16) (moderate : IsModerate step) where
  -- the store before the shift
  abbrev before : List ℤ
  before = set store place (number_at store place -ℤ step)

  -- how far a signed place rises, exactly
  record Rises (i : ℕ) : Type 0 where
    by : ℤ
    known : rise place (Some step) (Some (neg_ℤ step)) i ≡ Some by
    small : IsModerate by
    is : signed store i -ℤ signed before i ≡ by

  rises : (i : ℕ) → Rises i
  rises i = ⊎_elim
      (λ (even : (eqb i (2 * place) ≡ true) × (i ≡ 2 * place)).
      let now : signed store i ≡ number_at store place = ap (signed store) even.1 ∙ signed_own store place in
      let was : signed before i ≡ number_at store place -ℤ step =
      ap (signed before) even.1 ∙ signed_up store place (number_at store place -ℤ step) long low in
      record { by = step; known = rw even.0 refl; small = moderate; is = rw (now, was) (omega (arith, ints)) })
      (λ (apart : (eqb i (2 * place) ≡ false) × (i ≢ 2 * place)). ⊎_elim
      (λ (odd : (eqb i (2 * place + 1) ≡ true) × (i ≡ 2 * place + 1)).
      let now : signed store i ≡ neg_ℤ (number_at store place) = ap (signed store) odd.1 ∙ signed_negative store place in
      let was : signed before i ≡ neg_ℤ (number_at store place -ℤ step) =
      ap (signed before) odd.1 ∙ signed_down store place (number_at store place -ℤ step) long low in
      record {
        by = neg_ℤ step;
        known = rw (apart.0, odd.0) refl;
        small = omega (arith, ints);
        is = rw (now, was) (omega (arith, ints));
      })
      (λ (other : (eqb i (2 * place + 1) ≡ false) × (i ≢ 2 * place + 1)).
      let place_apart : i / 2 ≢ place = let ne = apart.1 in let also = other.1 in λ same. omega arith in
      let kept = signed_other store place (number_at store place -ℤ step) long low i place_apart in
      record { by = pos 0; known = rw (apart.0, other.0) refl; small = omega arith; is = rw kept (omega (arith, ints)) })
      (eqb_tells i (2 * place + 1)))
      (eqb_tells i (2 * place))

  module _ (old new : List (Bound ℤ)) (are : AreCellsOf (shifted old place (Some step) (Some (neg_ℤ step))) new)
      (bounds : HasModerateBounds old) (below : IsBelow new store) where
    pub shifted_from : IsBelow old before
    shifted_from = below_of_cells old before (λ i j h g apart. told i j h g apart (cell old (32 * i + j)) refl)
      where
        told : (i j : ℕ) → i < 32 → j < 32 → i ≢ j → (end : Option ℤ) → cell old (32 * i + j) ≡ end
            → IsUpTo (cell old (32 * i + j)) (signed before i -ℤ signed before j)
        told i j h g apart None is = rw is tt
        told i j h g apart (Some end) is =
            let own = rises i in
            let other = rises (turned j) in
            let small = bounds i j end h g (bound_apart old i j apart ∙ is) in
            let first : sum_end (rise place (Some step) (Some (neg_ℤ step)) i) (cell old (32 * i + j)) ≡ Some (own.by +ℤ end) =
            rw (own.known, is) (known_end (own.by +ℤ end) (two_fit own.by end own.small small)) in
            let whole : shifted old place (Some step) (Some (neg_ℤ step)) i j ≡ Some (own.by +ℤ end +ℤ other.by) =
            rw (first, other.known) (known_end (own.by +ℤ end +ℤ other.by) (three_fit own.by end other.by own.small small other.small)) in
            let most = subst (λ e. IsUpTo e (signed store i -ℤ signed store j)) whole
            (matrix_of_below (shifted old place (Some step) (Some (neg_ℤ step))) new store are below i j h g apart) in
            let now = signed_turned store j in
            let was = signed_turned before j in
            let rose = own.is in
            let fell = other.is in
            rw is (omega (arith, ints))

-- ---- a place whose number became the negative

module _ (place : ℕ) (old new : List (Bound ℤ)) (are : AreCellsOf (flipped old place) new) where
  pub apart_too : (i j : ℕ) → i ≢ j → exchanged place i ≢ exchanged place j
  apart_too i j apart is = apart (sym (exchanged_twice place i) ∙ ap (exchanged place) is ∙ exchanged_twice place j)

  pub flipped_moderate : HasModerateBounds old → HasModerateBounds new
  flipped_moderate bounds i j end h g is = ⊎_elim
      (λ (same : (eqb i j ≡ true) × (i ≡ j)). bounds i j end h g (bound_same old i j same.1 ∙ sym (bound_same new i j same.1) ∙ is))
      (λ (apart : (eqb i j ≡ false) × (i ≢ j)).
      bounds (exchanged place i) (exchanged place j) end (exchanged_low place i h) (exchanged_low place j g)
      (bound_apart old (exchanged place i) (exchanged place j) (apart_too i j apart.1) ∙ sym (are.each i j h g)
      ∙ sym (bound_apart new i j apart.1) ∙ is))
      (eqb_tells i j)

  module _ (store : List ℤ) (long : length store ≡ 16) (low : place < 16) where
    pub flipped_from : IsBelow new store → IsBelow old (set store place (neg_ℤ (number_at store place)))
    flipped_from below = below_of_cells old (set store place (neg_ℤ (number_at store place))) (λ i j h g apart.
        let one = signed_exchanged store place long low i in
        let two = signed_exchanged store place long low j in
        let there = matrix_of_below (flipped old place) new store are below (exchanged place i) (exchanged place j) (exchanged_low place i h)
        (exchanged_low place j g) (apart_too i j apart) in
        let back : flipped old place (exchanged place i) (exchanged place j) ≡ cell old (32 * i + j) =
        ap (λ a. cell old (32 * a + exchanged place (exchanged place j))) (exchanged_twice place i)
        ∙ ap (λ b. cell old (32 * i + b)) (exchanged_twice place j) in
        up_to_same (cell old (32 * i + j)) _ _ (rw (one, two) refl)
        (subst (λ e. IsUpTo e (signed store (exchanged place i) -ℤ signed store (exchanged place j))) back there))

-- ---- steps

module _ (place : ℕ) (value : Linear) (step : IsStepOf place value) where
  abbrev by : ℤ
  by = value.affine.constant +ℤ step.rest

  step_fits : (z : ℤ) → IsModerate z → Fits128 z
  step_fits z small = omega (arith, ints)

  turned_small : (z : ℤ) → IsModerate z → IsModerate (neg_ℤ z)
  turned_small z small = omega (arith, ints)

  step_above : above_terms value ≡ Some by
  step_above = ap (sum_end (Some value.affine.constant)) step.upper ∙ known_end by (step_fits by step.step)

  step_below : below_terms value ≡ Some (neg_ℤ by)
  step_below =
      ap (λ e. negative_end (sum_end (Some value.affine.constant) e)) step.lower
      ∙ ap negative_end (known_end by (step_fits by step.step)) ∙ known_end (neg_ℤ by) (step_fits (neg_ℤ by) (turned_small by step.step))

  -- a step is a move that can be made
  pub step_can : (up down : Option ℤ) (cells : List (Bound ℤ)) → up ≡ above_terms value → down ≡ below_terms value → HasModerateBounds cells
      → CanMove cells up down
  step_can up down cells above under bounds = record {
    bounds = bounds;
    above = λ z is.
        let there : Some by ≡ Some z = sym (above ∙ step_above) ∙ is in
        let same : by ≡ z = cc in
        subst IsModerate same step.step;
    below = λ z is.
        let there : Some (neg_ℤ by) ≡ Some z = sym (under ∙ step_below) ∙ is in
        let same : neg_ℤ by ≡ z = cc in
        subst IsModerate same (turned_small by step.step);
    between =
        let none : by +ℤ neg_ℤ by ≡ pos 0 = omega (arith, ints) in
        rw (above ∙ step_above, under ∙ step_below, none) refl;
  }

  step_covers : (store : List ℤ) (z terms : ℤ) → value_at value.affine store ≡ terms +ℤ value.affine.constant → z ≡ terms +ℤ by
      → Covers value store z
  step_covers store z terms is steps = record {
    lower = rw step.lower (omega (arith, ints));
    upper = rw step.upper (omega (arith, ints));
  }

  module _ (term : ℕ) (up down : Option ℤ) (old new : List (Bound ℤ)) (low : place < 16) (one : IsOneTerm 16 value.affine term)
      (above : up ≡ above_terms value) (under : down ≡ below_terms value) (are : AreCellsOf (shifted old place up down) new)
      (bounds : HasModerateBounds old) where
    shifted_by_step : AreCellsOf (shifted old place (Some by) (Some (neg_ℤ by))) new
    shifted_by_step = rw (above ∙ step_above, under ∙ step_below) at are

    -- x = x + step
    pub own_moves : term ≡ 2 * place → ComesFromAssigned place value (IsBelow old) (IsBelow new)
    own_moves is store long below =
        let z = number_at store place -ℤ by in
        let own : signed (set store place z) term ≡ z = ap (signed (set store place z)) is ∙ signed_up store place z long low in (
          z,
          shifted_from store place by long low step.step old new shifted_by_step bounds below,
          step_covers (set store place z) (number_at store place) (signed (set store place z) term)
              (one_value value term (set store place z) one) (rw own (omega (arith, ints))),
        )

    -- x = -x + step, where the old cells are those of the negative
    pub turned_moves : (first : List (Bound ℤ)) → AreCellsOf (flipped first place) old → term ≡ 2 * place + 1
        → ComesFromAssigned place value (IsBelow first) (IsBelow new)
    turned_moves first flip is store long below =
        let was = number_at store place -ℤ by in
        let between = set store place was in
        let z = neg_ℤ was in
        let long_too = length-set store place was ∙ long in
        let number : number_at between place ≡ was = number_here store place was long low in
        let shift = shifted_from store place by long low step.step old new shifted_by_step bounds below in
        let has : IsBelow first (set store place z) =
        subst (IsBelow first) (ap (λ x. set between place (neg_ℤ x)) number ∙ set-set store place was z)
        (flipped_from place first old flip between long_too low shift) in
        let turned : signed (set store place z) term ≡ neg_ℤ z = ap (signed (set store place z)) is ∙ signed_down store place z long low in (
          z,
          has,
          step_covers (set store place z) (number_at store place) (signed (set store place z) term)
              (one_value value term (set store place z) one) (rw turned (omega (arith, ints))),
        )

  -- a step has one variable
  pub step_two : (first second : ℕ) → ¬ AreTwoTerms 16 value.affine first second
  step_two first second two =
      let ordered = two.ordered in
      let inside = two.inside in
      ⊎_elim
      (λ (same : (eqb (first / 2) place ≡ true) × (first / 2 ≡ place)).
      let here = same.1 in
      let away : second / 2 ≢ place = λ is. omega arith in
      two.mentions_second (step.alone (second / 2) inside away))
      (λ (apart : (eqb (first / 2) place ≡ false) × (first / 2 ≢ place)).
      two.mentions_first (step.alone (first / 2) (omega arith) apart.1))
      (eqb_tells (first / 2) place)
