use Rattle.std.proofs.Common.{◌≡◌, pos, neg_ℤ, ◌≤ℤ◌, ◌<ℤ◌, arith, rules}
use Rattle.std.proofs.lemmas.Int.{ints, to_z-of_z}
use Rattle.linear_cons.specs.Functions.{coefficient}
use Rattle.linear_cons.specs.Numbers.{Fits128}
use Rattle.poly_dom.proofs.Turning.{if_some_more, turned_lower, turned_upper, unmentioned}
use Rattle.poly_dom.proofs.carrying.turned.Goals as goal

pub carried-requires-clause-unmentioned : goal.carried-requires-clause-unmentioned
carried-requires-clause-unmentioned c = rw c.without-rest.ensures (unmentioned c.args.row.now.affine c.args.place)

pub carried-requires-else-factor-lt0-clause-unmentioned : goal.carried-requires-else-factor-lt0-clause-unmentioned
carried-requires-else-factor-lt0-clause-unmentioned c = rw c.without-rest.ensures (unmentioned c.args.row.now.affine c.args.place)

pub returns-in_ok-times : goal.returns-in_ok-times
returns-in_ok-times c =
    let factor : Fits128 (coefficient c.args.value.now.affine c.args.place) = search rules in
    let own : Fits128 (coefficient c.args.row.now.affine c.args.place) = search rules in
    let size : Fits128 c.in_ok-by.by = search rules in
    let turn : Fits128 c.in_ok-times.times = search rules in
    let negative : coefficient c.args.value.now.affine c.args.place <ℤ pos 0 = omega (arith, ints) in
    let by : c.in_ok-by.by ≡ neg_ℤ (coefficient c.args.value.now.affine c.args.place) = (simp to_z-of_z at c.in_ok-by.ensures).1 in
    let times : c.in_ok-times.times ≡ neg_ℤ (coefficient c.args.row.now.affine c.args.place) =
    (simp to_z-of_z at c.in_ok-times.ensures).1 in
    let carried = rw (c.without-rest.ensures, by, times) at (simp to_z-of_z at c.carried.ensures) in
    if_some_more c.carried.result _ _ (λ row holds store z is covers met. holds store z is covers
    (turned_upper c.args.row.now.affine c.args.place c.args.value.now store c.requires negative met)) carried

pub returns-else-factor-lt0 : goal.returns-else-factor-lt0
returns-else-factor-lt0 c =
    let factor : Fits128 (coefficient c.args.value.now.affine c.args.place) = search rules in
    let own : Fits128 (coefficient c.args.row.now.affine c.args.place) = search rules in
    let positive : pos 0 ≤ℤ coefficient c.args.value.now.affine c.args.place = omega (arith, ints) in
    let carried = rw c.without-rest.ensures at (simp to_z-of_z at c.carried-else-factor-lt0.ensures) in
    if_some_more c.carried-else-factor-lt0.result _ _ (λ row holds store z is covers met. holds store z is covers
    (turned_lower c.args.row.now.affine c.args.place c.args.value.now store c.requires positive met)) carried
