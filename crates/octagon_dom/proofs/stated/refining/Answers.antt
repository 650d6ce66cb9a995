use Rattle.std.proofs.Common.{◌≡◌, ◌<◌, pos, arith, unsigned_abs}
use Rattle.std.proofs.Common.{rules}
use Rattle.std.proofs.lemmas.Int.{ints, to_z-of_z}
use Rattle.linear_cons.specs.Numbers.{Fits128}
use Rattle.octagon_dom.proofs.StatedLaws.{refined_bound}
use Rattle.octagon_dom.proofs.stated.refining.Goals as goal

pub returns : goal.returns
returns c =
    let fits = c.ranges.factor in
    let also = c.ranges.rest in
    let quotient : Fits128 c.floor_quotient.result = search rules in
    let size : c.unsigned_abs.result ≡ unsigned_abs c.args.factor = simp to_z-of_z at c.unsigned_abs.ensures.value in
    let some : c.args.factor ≡ pos 0 → ⊥ = c.requires.some in
    let positive : 0 < c.unsigned_abs.result = omega (arith, ints) in
    let below = simp to_z-of_z at c.floor_quotient.ensures.below_next in
    let low = simp to_z-of_z at c.signed_place-low.ensures in
    let sum = simp to_z-of_z at c.sum.ensures in
    refined_bound c.args.factor c.args.rest c.floor_quotient.result c.args.place c.unsigned_abs.result c.turned.result
    c.signed_place-low.result c.sum.result c.requires.inside positive size below low c.turned.ensures sum
