use Rattle.std.proofs.Common.{pos, neg_ℤ, ◌+ℤ◌, arith, subst, sym}
use Rattle.std.proofs.lemmas.Int.{ints}
use Rattle.linear_cons.specs.Bounds.{IsUpTo}
use Rattle.linear_cons.specs.Numbers.{number_at}
use Rattle.linear_cons.proofs.EndLaws.{up_to_same}
use Rattle.octagon_dom.specs.Assignments.{above_terms, below_terms}
use Rattle.octagon_dom.specs.Cells.{sum_end}
use Rattle.octagon_dom.proofs.Assigned.{assigned_down, assigned_up, covers_of, half_above, half_below, no_value}
use Rattle.octagon_dom.proofs.setting.set_range.Goals as goal

pub returns-clause-keeps : goal.returns-clause-keeps
returns-clause-keeps c store z is below covers =
    let value = no_value c.args.value.now store c.requires.none in
    c.set_between.ensures.keeps store z is below
    (subst (λ end. IsUpTo end z) (sym c.above.ensures)
    (up_to_same (above_terms c.args.value.now) _ _ (omega (arith, ints)) (assigned_up c.args.value.now store z (pos 0) value covers)))
    (subst (λ end. IsUpTo end (neg_ℤ z)) (sym c.below.ensures)
    (up_to_same (below_terms c.args.value.now) _ _ (omega (arith, ints)) (assigned_down c.args.value.now store z (pos 0) value covers)))

pub returns-clause-sets : goal.returns-clause-sets
returns-clause-sets c fits store long below =
    let z = number_at store c.args.place in
    let value = no_value c.args.value.now store c.requires.none in
    let up = subst (λ end. IsUpTo (sum_end end end) (number_at store c.args.place +ℤ number_at store c.args.place)) c.above.ensures
    (c.set_between.ensures.upper store below) in
    let down =
    subst (λ end. IsUpTo (sum_end end end) (neg_ℤ (number_at store c.args.place) +ℤ neg_ℤ (number_at store c.args.place))) c.below.ensures
    (c.set_between.ensures.lower store below) in
    covers_of c.args.value.now store (number_at store c.args.place) (pos 0) fits value
    (up_to_same (above_terms c.args.value.now) _ _ (omega (arith, ints)) (half_above c.args.value.now
    (number_at store c.args.place) fits up))
    (up_to_same (below_terms c.args.value.now) _ _ (omega (arith, ints))
    (half_below c.args.value.now (neg_ℤ (number_at store c.args.place)) fits down))
