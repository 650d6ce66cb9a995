use Rattle.std.proofs.Common.{None, refl, set}
use Rattle.linear_cons.proofs.EndLaws.{up_to_same}
use Rattle.octagon_dom.specs.Laws.Members.{signed_own}
use Rattle.octagon_dom.proofs.Members.{shifted_keeps, signed_other, signed_up}
use Rattle.octagon_dom.proofs.setting.set_beside.Goals as goal

pub returns-clause-keeps : goal.returns-clause-keeps
returns-clause-keeps c store z is below above under =
    let place = c.args.place in
    let moved = shifted_keeps store place z is c.requires.inside None None c.args.cells.now c.shift-moved.new.cells c.shift-moved.ensures.moved tt tt below in
    let own = signed_up store place z is c.requires.inside in
    let other = signed_other store place z is c.requires.inside c.args.term c.requires.apart in
    c.state-lower.ensures.keeps (set store place z)
    (c.state-upper.ensures.keeps (set store place z) moved (up_to_same _ _ _ (rw (own, other) refl) above))
    (up_to_same _ _ _ (rw (own, other) refl) under)

pub returns-clause-upper : goal.returns-clause-upper
returns-clause-upper c store below =
    let own = signed_own store c.args.place in
    up_to_same _ _ _ (rw own refl) (c.state-upper.ensures.met store (c.state-lower.ensures.inside store below))

pub returns-clause-lower : goal.returns-clause-lower
returns-clause-lower c store below =
    let own = signed_own store c.args.place in
    up_to_same _ _ _ (rw own refl) (c.state-lower.ensures.met store below)

pub returns-clause-whole : goal.returns-clause-whole
returns-clause-whole c is closed =
    let moved = c.shift-moved.ensures.whole (c.both-2.ensures.one is) closed in
    let states = c.both-2.ensures.other is in
    c.state-lower.ensures.whole (c.both.ensures.other states) (c.state-upper.ensures.whole (c.both.ensures.one states) (λ filled. moved.ways))
