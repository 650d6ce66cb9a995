use Rattle.std.proofs.Common.{◌≡◌, ◌∙◌, ◌+◌, ◌*◌, ℤ, neg_ℤ, ◌-ℤ◌, List, ap, arith, length-set, refl, set, set-set, subst, sym}
use Rattle.linear_cons.specs.Bounds.{Covers, IsUpTo}
use Rattle.linear_cons.specs.Numbers.{number_at}
use Rattle.linear_cons.proofs.EndLaws.{up_to_same}
use Rattle.num_domain.specs.Ends.{some_end}
use Rattle.octagon_dom.specs.Cells.{IsBelow, signed}
use Rattle.octagon_dom.specs.Laws.Members.{signed_negative, signed_own}
use Rattle.octagon_dom.proofs.Assigned.{assigned_down, assigned_up, covers_of, one_value}
use Rattle.octagon_dom.proofs.Exchanging.{flipped_keeps}
use Rattle.octagon_dom.proofs.Members.{number_here, shifted_keeps}
use Rattle.octagon_dom.proofs.Moves.{flipped_closed}
use Rattle.octagon_dom.proofs.Moved.{flipped_moderate, own_moves, step_can, turned_moves}
use Rattle.octagon_dom.proofs.setting.set_term.Goals as goal
use Rattle.octagon_dom.proofs.setting.set_term.Goals.{After-below-down}

above : (c : After-below-down) (store : List ℤ) (z : ℤ) → Covers c.args.value.now store z
    → IsUpTo (some_end c.above-up.result) (z -ℤ signed store c.args.term)
above c store z covers = subst (λ end. IsUpTo end (z -ℤ signed store c.args.term)) (sym c.above-up.ensures)
    (assigned_up c.args.value.now store z (signed store c.args.term) (one_value c.args.value.now c.args.term store c.requires.one) covers)

under : (c : After-below-down) (store : List ℤ) (z : ℤ) → Covers c.args.value.now store z
    → IsUpTo (some_end c.below-down.result) (signed store c.args.term -ℤ z)
under c store z covers = subst (λ end. IsUpTo end (signed store c.args.term -ℤ z)) (sym c.below-down.ensures)
    (assigned_down c.args.value.now store z (signed store c.args.term) (one_value c.args.value.now c.args.term store c.requires.one) covers)

pub returns-then-term-place-clause-keeps : goal.returns-then-term-place-clause-keeps
returns-then-term-place-clause-keeps c store z is below covers =
    let here = (goal.at.returns-then-term-place-clause-keeps c).After-below-down in
    c.set_beside.ensures.keeps store z is below (above here store z covers) (under here store z covers)

pub returns-then-term-place-clause-sets : goal.returns-then-term-place-clause-sets
returns-then-term-place-clause-sets c away fits store long below =
    covers_of c.args.value.now store (number_at store c.args.place) (signed store c.args.term) fits
    (one_value c.args.value.now c.args.term store c.requires.one)
    (subst (λ end. IsUpTo end (number_at store c.args.place -ℤ signed store c.args.term)) c.above-up.ensures
    (c.set_beside.ensures.upper store below))
    (subst (λ end. IsUpTo end (signed store c.args.term -ℤ number_at store c.args.place)) c.below-down.ensures
    (c.set_beside.ensures.lower store below))

pub returns-then-term-place-2-clause-keeps : goal.returns-then-term-place-2-clause-keeps
returns-then-term-place-2-clause-keeps c store z is below covers =
    let here = (goal.at.returns-then-term-place-2-clause-keeps c).After-below-down in
    let own : signed store c.args.term ≡ number_at store c.args.place = ap (signed store) c.if-term-place-2.true
    ∙ signed_own store c.args.place in
    shifted_keeps store c.args.place z is c.requires.inside (some_end c.above-up.result) (some_end c.below-down.result) c.args.cells.now
    c.shift.new.cells c.shift.ensures.moved
    (up_to_same (some_end c.above-up.result) _ _ (rw own refl) (above here store z covers))
    (up_to_same (some_end c.below-down.result) _ _ (rw own refl) (under here store z covers)) below

pub returns-else-term-place-2-clause-keeps : goal.returns-else-term-place-2-clause-keeps
returns-else-term-place-2-clause-keeps c store z is below covers =
    let here = (goal.at.returns-else-term-place-2-clause-keeps c).After-below-down in
    let own = c.if-term-place.false in
    let other = c.if-term-place-2.false in
    let odd : c.args.term ≡ 2 * c.args.place + 1 = omega arith in
    let turned : signed store c.args.term ≡ neg_ℤ (number_at store c.args.place) =
    ap (signed store) odd ∙ signed_negative store c.args.place in
    let number = number_here store c.args.place (neg_ℤ (number_at store c.args.place)) is c.requires.inside in
    let flipped = flipped_keeps store c.args.place is c.requires.inside c.args.cells.now c.flip.new.cells c.flip.ensures below in
    let long = length-set store c.args.place (neg_ℤ (number_at store c.args.place)) ∙ is in
    subst (IsBelow c.shift-else-term-place-2.new.cells) (set-set store c.args.place (neg_ℤ (number_at store c.args.place)) z)
    (shifted_keeps (set store c.args.place (neg_ℤ (number_at store c.args.place))) c.args.place z long c.requires.inside
    (some_end c.above-up.result)
    (some_end c.below-down.result) c.flip.new.cells c.shift-else-term-place-2.new.cells c.shift-else-term-place-2.ensures.moved
    (up_to_same (some_end c.above-up.result) _ _ (rw (turned, number) refl) (above here store z covers))
    (up_to_same (some_end c.below-down.result) _ _ (rw (turned, number) refl) (under here store z covers)) flipped)

pub returns-then-term-place-clause-moves : goal.returns-then-term-place-clause-moves
returns-then-term-place-clause-moves c here = absurd (c.if-term-place.true here)

pub returns-then-term-place-2-clause-moves : goal.returns-then-term-place-2-clause-moves
returns-then-term-place-2-clause-moves c here bounds step =
    own_moves c.args.place c.args.value.now step c.args.term (some_end c.above-up.result) (some_end c.below-down.result) c.args.cells.now
    c.shift.new.cells c.requires.inside c.requires.one c.above-up.ensures c.below-down.ensures c.shift.ensures.moved bounds c.if-term-place-2.true

pub returns-else-term-place-2-clause-moves : goal.returns-else-term-place-2-clause-moves
returns-else-term-place-2-clause-moves c here bounds step =
    let own = c.if-term-place.false in
    let other = c.if-term-place-2.false in
    let odd : c.args.term ≡ 2 * c.args.place + 1 = omega arith in
    turned_moves c.args.place c.args.value.now step c.args.term (some_end c.above-up.result) (some_end c.below-down.result) c.flip.new.cells
    c.shift-else-term-place-2.new.cells c.requires.inside c.requires.one c.above-up.ensures c.below-down.ensures
    c.shift-else-term-place-2.ensures.moved (flipped_moderate c.args.place c.args.cells.now c.flip.new.cells c.flip.ensures bounds)
    c.args.cells.now c.flip.ensures odd

pub returns-then-term-place-2-clause-whole : goal.returns-then-term-place-2-clause-whole
returns-then-term-place-2-clause-whole c is closed filled = (c.shift.ensures.whole is closed).ways

pub returns-else-term-place-2-clause-whole : goal.returns-else-term-place-2-clause-whole
returns-else-term-place-2-clause-whole c is closed filled =
    (c.shift-else-term-place-2.ensures.whole is (flipped_closed c.args.place c.args.cells.now c.flip.new.cells c.flip.ensures closed)).ways

pub returns-then-term-place-clause-moderate : goal.returns-then-term-place-clause-moderate
returns-then-term-place-clause-moderate c here = absurd (c.if-term-place.true here)

pub returns-then-term-place-2-clause-moderate : goal.returns-then-term-place-2-clause-moderate
returns-then-term-place-2-clause-moderate c here bounds step = c.shift.ensures.moderate
    (step_can c.args.place c.args.value.now step (some_end c.above-up.result) (some_end c.below-down.result) c.args.cells.now
    c.above-up.ensures c.below-down.ensures bounds)

pub returns-else-term-place-2-clause-moderate : goal.returns-else-term-place-2-clause-moderate
returns-else-term-place-2-clause-moderate c here bounds step = c.shift-else-term-place-2.ensures.moderate
    (step_can c.args.place c.args.value.now step (some_end c.above-up.result) (some_end c.below-down.result) c.flip.new.cells
    c.above-up.ensures c.below-down.ensures (flipped_moderate c.args.place c.args.cells.now c.flip.new.cells c.flip.ensures bounds))
