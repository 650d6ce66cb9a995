use Rattle.std.proofs.Common.{[], rules}
use Rattle.std.proofs.lemmas.Int.{to_z-of_z}
use Rattle.linear_cons.specs.Numbers.{Fits128}
use Rattle.poly_dom.proofs.Turning.{after_more, after_none, nothing_above, nothing_unmentioned}
use Rattle.poly_dom.proofs.carrying.add_end.Goals as goal

pub carried-requires-clause-unmentioned : goal.carried-requires-clause-unmentioned
carried-requires-clause-unmentioned c = nothing_unmentioned c.constant.result c.args.place c.constant.ensures c.requires.within

pub returns-in_ok-add : goal.returns-in_ok-add
returns-in_ok-add c =
    let times : Fits128 c.args.times = search rules in
    let carried = simp to_z-of_z at c.in-Some.ensures in
    after_more c.args.place c.args.value.now [] _ _ _ c.in-Some.row
    (λ store z is covers met. carried store z is covers
    (nothing_above c.constant.result c.args.place c.args.value.now c.args.times store c.requires.unread))
    (after_none c.args.place c.args.value.now [] _ c.requires.few) c.in_ok-add.ensures
