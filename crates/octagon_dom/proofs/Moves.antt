-- Closed bounds that move, or change places, stay closed.
use Rattle.std.proofs.Common.{◌≡◌, ◌≢◌, ⊎_elim, ℕ, ◌+◌, ◌*◌, ◌-◌, ◌%◌, ◌<◌, ℤ, pos, ◌+ℤ◌, ◌≤ℤ◌, true, false, eqb}
use Rattle.std.proofs.Common.{List, Option, Some, arith, refl, sym, ◌∙◌, ap, subst}
use Rattle.std.proofs.lemmas.Bool.Decides.{eqb_tells}
use Rattle.std.proofs.lemmas.Int.{ints}
use Rattle.linear_cons.proofs.Places.{eqb_apart}
use Rattle.num_domain.specs.declared.bound.Bound.{Bound}
use Rattle.octagon_dom.specs.Assignments.{IsModerate}
use Rattle.octagon_dom.specs.Cells.{AreCellsOf, bound, cell, exchanged, flipped, rise, shifted, sum_end, turned}
use Rattle.octagon_dom.specs.Closure.{CanMove, IsClosed}
use Rattle.octagon_dom.specs.Laws.Members.{bound_apart, bound_same, turned_even, turned_odd, turned_twice}
use Rattle.octagon_dom.proofs.Closures.{natural_sum}
use Rattle.octagon_dom.proofs.Exchanging.{exchanged_low}
use Rattle.octagon_dom.proofs.Moved.{apart_too, three_fit, two_fit}
use Rattle.octagon_dom.proofs.Ways.{IsNoMore, closed_cycle, closed_of_ways, closed_way, sum_end_is, sum_end_within, within_more, within_some}

-- ---- exchanged places

module _ (place : ℕ) (old new : List (Bound ℤ)) (are : AreCellsOf (flipped old place) new) where
  flipped_bound : (a b : ℕ) → a < 32 → b < 32 → bound new a b ≡ bound old (exchanged place a) (exchanged place b)
  flipped_bound a b h g = ⊎_elim
      (λ (same : (eqb a b ≡ true) × (a ≡ b)). bound_same new a b same.1
      ∙ sym (bound_same old (exchanged place a) (exchanged place b) (ap (exchanged place) same.1)))
      (λ (apart : (eqb a b ≡ false) × (a ≢ b)). bound_apart new a b apart.1 ∙ are.each a b h g
      ∙ sym (bound_apart old (exchanged place a) (exchanged place b) (apart_too place old new are a b apart.1)))
      (eqb_tells a b)

  pub flipped_closed : IsClosed (bound old) → IsClosed (bound new)
  flipped_closed closed = closed_of_ways (bound new) (λ i h. bound_same new i i refl) (λ a b k h g l x y first second.
      subst (λ end. IsNoMore end (x +ℤ y)) (sym (flipped_bound a b h g))
      (closed_way (bound old) closed (exchanged place a) (exchanged place b) (exchanged place k) (exchanged_low place a h)
      (exchanged_low place b g) (exchanged_low place k l) x y (x +ℤ y)
      (subst (λ end. IsNoMore end x) (flipped_bound a k h l) first) (subst (λ end. IsNoMore end y) (flipped_bound k b l g) second)
      (omega (arith, ints))))

-- ---- a moved place

module _ (place : ℕ) (up down : Option ℤ) (old new : List (Bound ℤ)) (are : AreCellsOf (shifted old place up down) new)
    (can : CanMove old up down) where
  rises : ℕ → Option ℤ
  rises i = rise place up down i

  rise_moderate : (i : ℕ) (z : ℤ) → rise place up down i ≡ Some z → IsModerate z
  rise_moderate i z is = ⊎_elim
      (λ (even : (eqb i (2 * place) ≡ true) × (i ≡ 2 * place)). can.above z (rw even.0 at is))
      (λ (apart : (eqb i (2 * place) ≡ false) × (i ≢ 2 * place)). ⊎_elim
      (λ (odd : (eqb i (2 * place + 1) ≡ true) × (i ≡ 2 * place + 1)). can.below z (rw (apart.0, odd.0) at is))
      (λ (other : (eqb i (2 * place + 1) ≡ false) × (i ≢ 2 * place + 1)).
      let none : Some (pos 0) ≡ Some z = rw (apart.0, other.0) at is in
      let nought : pos 0 ≡ z = cc in
      subst IsModerate nought (omega arith))
      (eqb_tells i (2 * place + 1)))
      (eqb_tells i (2 * place))

  -- a signed place and the negative of its number don't rise by less than nothing together
  rise_natural : (i : ℕ) (x y : ℤ) → IsNoMore (rise place up down i) x → IsNoMore (rise place up down (turned i)) y → pos 0 ≤ℤ (x +ℤ y)
  rise_natural i x y first second = ⊎_elim
      (λ (even : (eqb i (2 * place) ≡ true) × (i ≡ 2 * place)).
      let parity_is : i % 2 ≡ 0 = let is = even.1 in omega arith in
      let turn : turned i ≡ 2 * place + 1 = turned_even i parity_is ∙ ap (λ t. t + 1) even.1 in
      let away : eqb (2 * place + 1) (2 * place) ≡ false = eqb_apart (2 * place + 1) (2 * place) (λ is. omega arith) in
      let own : IsNoMore up x = subst (λ end. IsNoMore end x) (rise_even i even.1) first in
      let other : IsNoMore down y = subst (λ end. IsNoMore end y) (rise_odd (turned i) turn) second in
      natural_sum up down x y can.between own other)
      (λ (apart : (eqb i (2 * place) ≡ false) × (i ≢ 2 * place)). ⊎_elim
      (λ (odd : (eqb i (2 * place + 1) ≡ true) × (i ≡ 2 * place + 1)).
      let parity_is : i % 2 ≡ 1 = let is = odd.1 in omega arith in
      let less : i - 1 ≡ 2 * place = let is = odd.1 in omega arith in
      let turn : turned i ≡ 2 * place = turned_odd i parity_is ∙ less in
      let own : IsNoMore down x = subst (λ end. IsNoMore end x) (rise_odd i odd.1) first in
      let other : IsNoMore up y = subst (λ end. IsNoMore end y) (rise_even (turned i) turn) second in
      let sum = natural_sum up down y x can.between other own in
      omega (arith, ints))
      (λ (other : (eqb i (2 * place + 1) ≡ false) × (i ≢ 2 * place + 1)).
      let not_even : turned i ≢ 2 * place = λ is.
      let back : i ≡ turned (2 * place) = sym (turned_twice i) ∙ ap turned is in
      let even : (2 * place) % 2 ≡ 0 = omega arith in
      other.1 (back ∙ turned_even (2 * place) even) in
      let not_odd : turned i ≢ 2 * place + 1 = λ is.
      let back : i ≡ turned (2 * place + 1) = sym (turned_twice i) ∙ ap turned is in
      let odd : (2 * place + 1) % 2 ≡ 1 = omega arith in
      let less : 2 * place + 1 - 1 ≡ 2 * place = omega arith in
      apart.1 (back ∙ turned_odd (2 * place + 1) odd ∙ less) in
      let own : pos 0 ≤ℤ x = subst (λ end. IsNoMore end x) (rise_other i apart.1 other.1) first in
      let also : pos 0 ≤ℤ y = subst (λ end. IsNoMore end y) (rise_other (turned i) not_even not_odd) second in
      omega (arith, ints))
      (eqb_tells i (2 * place + 1)))
      (eqb_tells i (2 * place))
    where
      rise_even : (i : ℕ) → i ≡ 2 * place → rise place up down i ≡ up
      rise_even i is = ⊎_elim
          (λ (even : (eqb i (2 * place) ≡ true) × (i ≡ 2 * place)). rw even.0 refl)
          (λ (apart : (eqb i (2 * place) ≡ false) × (i ≢ 2 * place)). absurd (apart.1 is))
          (eqb_tells i (2 * place))

      rise_odd : (i : ℕ) → i ≡ 2 * place + 1 → rise place up down i ≡ down
      rise_odd i is = ⊎_elim
          (λ (even : (eqb i (2 * place) ≡ true) × (i ≡ 2 * place)). let one = even.1 in absurd (omega arith))
          (λ (apart : (eqb i (2 * place) ≡ false) × (i ≢ 2 * place)). ⊎_elim
          (λ (odd : (eqb i (2 * place + 1) ≡ true) × (i ≡ 2 * place + 1)). rw (apart.0, odd.0) refl)
          (λ (other : (eqb i (2 * place + 1) ≡ false) × (i ≢ 2 * place + 1)). absurd (other.1 is))
          (eqb_tells i (2 * place + 1)))
          (eqb_tells i (2 * place))

      rise_other : (i : ℕ) → i ≢ 2 * place → i ≢ 2 * place + 1 → rise place up down i ≡ Some (pos 0)
      rise_other i even odd = rw (eqb_apart i (2 * place) even, eqb_apart i (2 * place + 1) odd) refl

  -- a moved bound: how far both places rise, and the old one
  record Moved (a b : ℕ) (z : ℤ) : Type 0 where
    above : ℤ
    was : ℤ
    beyond : ℤ
    first : IsNoMore (rise place up down a) above
    second : IsNoMore (bound old a b) was
    third : IsNoMore (rise place up down (turned b)) beyond
    sum : (above +ℤ was +ℤ beyond) ≤ℤ z

  moved : (a b : ℕ) → a < 32 → b < 32 → a ≢ b → (z : ℤ) → IsNoMore (bound new a b) z → Moved a b z
  moved a b h g apart z within =
      let here : IsNoMore (shifted old place up down a b) z =
      subst (λ end. IsNoMore end z) (bound_apart new a b apart ∙ are.each a b h g) within in
      let last = sum_end_within (sum_end (rise place up down a) (cell old (32 * a + b))) (rise place up down (turned b)) z here in
      let first = sum_end_within (rise place up down a) (cell old (32 * a + b)) last.0 last.2 in
      let one = first.4 in
      let two = last.4 in
      record {
        above = first.0;
        was = first.1;
        beyond = last.1;
        first = first.2;
        second = subst (λ end. IsNoMore end first.1) (sym (bound_apart old a b apart)) first.3;
        third = last.3;
        sum = omega (arith, ints);
      }

  moves : (a b : ℕ) → a < 32 → b < 32 → a ≢ b → (z : ℤ) → Moved a b z → IsNoMore (bound new a b) z
  moves a b h g apart z parts =
      let one = within_some (rise place up down a) parts.above parts.first in
      let two = within_some (bound old a b) parts.was parts.second in
      let three = within_some (rise place up down (turned b)) parts.beyond parts.third in
      let small = rise_moderate a one.0 one.1 in
      let also = can.bounds a b two.0 h g two.1 in
      let last = rise_moderate (turned b) three.0 three.1 in
      let exact : shifted old place up down a b ≡ Some (one.0 +ℤ two.0 +ℤ three.0) =
      sum_end_is (sum_end (rise place up down a) (cell old (32 * a + b))) (rise place up down (turned b)) (one.0 +ℤ two.0) three.0
      (sum_end_is (rise place up down a) (cell old (32 * a + b)) one.0 two.0 one.1 (sym (bound_apart old a b apart) ∙ two.1)
      (two_fit one.0 two.0 small also)) three.1 (three_fit one.0 two.0 three.0 small also last) in
      let less = one.2 in
      let fewer = two.2 in
      let least = three.2 in
      let sum = parts.sum in
      subst (λ end. IsNoMore end z) (sym (bound_apart new a b apart ∙ are.each a b h g ∙ exact)) (omega (arith, ints))

  pub shifted_closed : IsClosed (bound old) → IsClosed (bound new)
  shifted_closed closed = closed_of_ways (bound new) (λ i h. bound_same new i i refl) (λ a b k h g l x y first second. ⊎_elim
      (λ (same : (eqb a k ≡ true) × (a ≡ k)).
      let nought : pos 0 ≤ℤ x = subst (λ end. IsNoMore end x) (bound_same new a k same.1) first in
      within_more (bound new a b) y (x +ℤ y) (subst (λ t. IsNoMore (bound new t b) y) (sym same.1) second) (omega (arith, ints)))
      (λ (away : (eqb a k ≡ false) × (a ≢ k)). ⊎_elim
      (λ (same : (eqb k b ≡ true) × (k ≡ b)).
      let nought : pos 0 ≤ℤ y = subst (λ end. IsNoMore end y) (bound_same new k b same.1) second in
      within_more (bound new a b) x (x +ℤ y) (subst (λ t. IsNoMore (bound new a t) x) same.1 first) (omega (arith, ints)))
      (λ (apart : (eqb k b ≡ false) × (k ≢ b)).
      let one = moved a k h l away.1 x first in
      let two = moved k b l g apart.1 y second in
      let between : pos 0 ≤ℤ (two.above +ℤ one.beyond) = rise_natural k two.above one.beyond two.first one.third in
      let sum = one.sum in
      let also = two.sum in
      ⊎_elim
      (λ (same : (eqb a b ≡ true) × (a ≡ b)).
      let round : pos 0 ≤ℤ (one.was +ℤ two.was) = closed_cycle (bound old) closed a k h l one.was two.was one.second
      (subst (λ t. IsNoMore (bound old k t) two.was) (sym same.1) two.second) in
      let ends : pos 0 ≤ℤ (one.above +ℤ two.beyond) = rise_natural a one.above two.beyond one.first
      (subst (λ t. IsNoMore (rise place up down (turned t)) two.beyond) (sym same.1) two.third) in
      let nought : pos 0 ≤ℤ (x +ℤ y) = omega (arith, ints) in
      subst (λ end. IsNoMore end (x +ℤ y)) (sym (bound_same new a b same.1)) nought)
      (λ (other : (eqb a b ≡ false) × (a ≢ b)). moves a b h g other.1 (x +ℤ y) (record {
        above = one.above;
        was = one.was +ℤ two.was;
        beyond = two.beyond;
        first = one.first;
        second = closed_way (bound old) closed a b k h g l one.was two.was (one.was +ℤ two.was) one.second two.second (omega (arith, ints));
        third = two.third;
        sum = omega (arith, ints);
      }))
      (eqb_tells a b))
      (eqb_tells k b))
      (eqb_tells a k))
