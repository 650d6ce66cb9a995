use Rattle.std.proofs.Common.{◌≡◌, ◌*◌, ◌+◌, neg_ℤ, ◌+ℤ◌, ◌-ℤ◌, None, arith, set, subst, sym}
use Rattle.std.proofs.lemmas.Int.{ints}
use Rattle.linear_cons.specs.Bounds.{IsUpTo}
use Rattle.linear_cons.proofs.EndLaws.{up_to_same, up_to_sum}
use Rattle.num_domain.specs.Ends.{some_end}
use Rattle.octagon_dom.specs.Cells.{signed}
use Rattle.linear_cons.specs.Numbers.{number_at}
use Rattle.octagon_dom.specs.Laws.Members.{signed_negative, signed_own}
use Rattle.octagon_dom.proofs.Members.{shifted_keeps, signed_down, signed_up}
use Rattle.octagon_dom.proofs.setting.set_between.Goals as goal

pub returns-clause-keeps : goal.returns-clause-keeps
returns-clause-keeps c store z is below above under =
    let place = c.args.place in
    let moved = shifted_keeps store place z is c.requires.inside None None c.args.cells.now c.shift-moved.new.cells c.shift-moved.ensures.moved tt tt below in
    let up = signed_up store place z is c.requires.inside in
    let down = signed_down store place z is c.requires.inside in
    let twice = subst (λ end. IsUpTo end (z +ℤ z)) (sym c.sum.ensures) (up_to_sum (some_end c.args.up)
    (some_end c.args.up) z z above above) in
    let turned = subst (λ end. IsUpTo end (neg_ℤ z +ℤ neg_ℤ z)) (sym c.sum-2.ensures)
    (up_to_sum (some_end c.args.down) (some_end c.args.down) (neg_ℤ z) (neg_ℤ z) under under) in
    let first : z +ℤ z ≡ signed (set store place z) (2 * place) -ℤ signed (set store place z) (2 * place + 1) =
    rw (up, down) (omega (arith, ints)) in
    let second : neg_ℤ z +ℤ neg_ℤ z ≡ signed (set store place z) (2 * place + 1) -ℤ signed (set store place z) (2 * place) =
    rw (up, down) (omega (arith, ints)) in
    c.state-lower.ensures.keeps (set store place z)
    (c.state-upper.ensures.keeps (set store place z) moved (up_to_same (some_end c.sum.result) _ _ first twice))
    (up_to_same (some_end c.sum-2.result) _ _ second turned)

pub returns-clause-upper : goal.returns-clause-upper
returns-clause-upper c store below =
    let own = signed_own store c.args.place in
    let other = signed_negative store c.args.place in
    subst (λ end. IsUpTo end (number_at store c.args.place +ℤ number_at store c.args.place)) c.sum.ensures
    (up_to_same (some_end c.sum.result) _ _ (rw (own, other) (omega (arith, ints)))
    (c.state-upper.ensures.met store (c.state-lower.ensures.inside store below)))

pub returns-clause-lower : goal.returns-clause-lower
returns-clause-lower c store below =
    let own = signed_own store c.args.place in
    let other = signed_negative store c.args.place in
    subst (λ end. IsUpTo end (neg_ℤ (number_at store c.args.place) +ℤ neg_ℤ (number_at store c.args.place))) c.sum-2.ensures
    (up_to_same (some_end c.sum-2.result) _ _ (rw (own, other) (omega (arith, ints))) (c.state-lower.ensures.met store below))

pub returns-clause-whole : goal.returns-clause-whole
returns-clause-whole c is closed =
    let moved = c.shift-moved.ensures.whole (c.both-2.ensures.one is) closed in
    let states = c.both-2.ensures.other is in
    c.state-lower.ensures.whole (c.both.ensures.other states) (c.state-upper.ensures.whole (c.both.ensures.one states) (λ filled. moved.ways))
