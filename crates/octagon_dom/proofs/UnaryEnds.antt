-- A store between the ends keeps to the bounds of one place.
use Rattle.std.proofs.Common.{◌≡◌, ◌+◌, ◌*◌, ◌/◌, ◌<◌, ℤ, pos, negsuc, neg_ℤ, ◌+ℤ◌, ◌≤ℤ◌, List, Option, None, Some, arith, sym, ◌∙◌, ap}
use Rattle.std.proofs.Common.{subst}
use Rattle.std.proofs.lemmas.Int.{ints}
use Rattle.linear_cons.specs.Bounds.{IsFrom, IsUpTo, LiesIn}
use Rattle.linear_cons.specs.Numbers.{floor_by, number_at}
use Rattle.linear_cons.proofs.EndLaws.{up_to_same}
use Rattle.num_domain.specs.declared.bound.Bound.{Bound}
use Rattle.octagon_dom.specs.Cells.{bound, turned}
use Rattle.octagon_dom.specs.Octagons.{KeepsToEnds, bounds_of_cells, lower_half, upper_half}
use Rattle.octagon_dom.specs.Laws.Members.{parity, signed_even, signed_odd, signed_turned, turned_even, turned_odd}
pub use Rattle.octagon_dom.specs.Laws.Rows.{ends_lie}
use Rattle.octagon_dom.specs.Laws.Rows.{ends_of_place}

half_holds : (c x : ℤ) → x ≤ℤ floor_by 2 c → (x +ℤ x) ≤ℤ c
half_holds (pos n) x h = omega (arith, ints)
half_holds (negsuc n) x h = omega (arith, ints)

upper_holds : (end : Option ℤ) (x : ℤ) → IsUpTo (upper_half end) x → IsUpTo end (x +ℤ x)
upper_holds None x h = tt
upper_holds (Some c) x h = half_holds c x h

lower_holds : (end : Option ℤ) (x : ℤ) → IsFrom (lower_half end) x → IsUpTo end (neg_ℤ x +ℤ neg_ℤ x)
lower_holds None x h = tt
lower_holds (Some c) x h = half_holds c (neg_ℤ x) (omega (arith, ints))

pub lies_ends : (cells : List (Bound ℤ)) (store : List ℤ) → LiesIn (bounds_of_cells cells) store → KeepsToEnds cells store
lies_ends cells store lies i h = parity i _
    (λ even.
    let inside : i / 2 < 16 = omega arith in
    let one : 2 * (i / 2) ≡ i = omega arith in
    let two : 2 * (i / 2) + 1 ≡ turned i = (omega arith) ∙ sym (turned_even i even) in
    let own = signed_even store i even in
    let other = signed_turned store i in
    let upper = subst (λ (ends : Option ℤ × Option ℤ). IsUpTo ends.1 (number_at store (i / 2))) (ends_of_place cells (i / 2) inside)
    (lies.upper (i / 2) inside) in
    let same : bound cells (2 * (i / 2)) (2 * (i / 2) + 1) ≡ bound cells i (turned i) =
    ap (λ k. bound cells k (2 * (i / 2) + 1)) one ∙ ap (bound cells i) two in
    let kept = subst (λ end. IsUpTo end (number_at store (i / 2) +ℤ number_at store (i / 2))) same
    (upper_holds (bound cells (2 * (i / 2)) (2 * (i / 2) + 1)) (number_at store (i / 2)) upper) in
    up_to_same (bound cells i (turned i)) _ _ (omega (arith, ints)) kept)
    (λ odd.
    let inside : i / 2 < 16 = omega arith in
    let one : 2 * (i / 2) + 1 ≡ i = omega arith in
    let two : 2 * (i / 2) ≡ turned i = (omega arith) ∙ sym (turned_odd i odd) in
    let own = signed_odd store i odd in
    let other = signed_turned store i in
    let lower = subst (λ (ends : Option ℤ × Option ℤ). IsFrom ends.0 (number_at store (i / 2))) (ends_of_place cells (i / 2) inside)
    (lies.lower (i / 2) inside) in
    let same : bound cells (2 * (i / 2) + 1) (2 * (i / 2)) ≡ bound cells i (turned i) =
    ap (λ k. bound cells k (2 * (i / 2))) one ∙ ap (bound cells i) two in
    let kept = subst (λ end. IsUpTo end (neg_ℤ (number_at store (i / 2)) +ℤ neg_ℤ (number_at store (i / 2)))) same
    (lower_holds (bound cells (2 * (i / 2) + 1) (2 * (i / 2))) (number_at store (i / 2)) lower) in
    up_to_same (bound cells i (turned i)) _ _ (omega (arith, ints)) kept)
