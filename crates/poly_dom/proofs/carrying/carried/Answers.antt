use Rattle.std.proofs.Common.{◌∙◌, ap, rules, set}
use Rattle.std.proofs.lemmas.Int.{to_z-of_z}
use Rattle.linear_cons.specs.Functions.{mixed_of}
use Rattle.linear_cons.specs.Numbers.{Fits128}
use Rattle.poly_dom.specs.Assignments.{IsBounding}
use Rattle.poly_dom.proofs.Turning.{carried_above}
use Rattle.poly_dom.proofs.carrying.carried.Goals as goal

pub returns-in-Row : goal.returns-in-Row
returns-in-Row c store z is covers above =
    let by : Fits128 c.args.by = search rules in
    let times : Fits128 c.args.times = search rules in
    let bounding : IsBounding c.args.value.now c.args.times c.in_ok-ended.ended = simp to_z-of_z at c.in_ok-ended.ensures in
    let read = rw (c.var.ensures, c.without.ensures) at c.in-Ok.ensures.exact.1 in
    let mixed = (simp to_z-of_z at c.in-Ok-mixed.ensures.exact).1 in
    (c.in-Row.ensures.same_stores (set store c.args.place z)).1
    (carried_above c.args.value.now c.args.rest.now c.in_ok-ended.ended _ c.args.by c.args.times z c.args.place store c.requires.within is
    c.requires.unmentioned bounding (mixed ∙ ap (λ t. mixed_of c.args.rest.now c.args.by t c.args.times) read) covers above)
