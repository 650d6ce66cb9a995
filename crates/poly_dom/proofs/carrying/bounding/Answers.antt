use Rattle.std.proofs.Common.{pos, ◌≤ℤ◌, ◌<ℤ◌, arith, rules}
use Rattle.std.proofs.lemmas.Int.{ints}
use Rattle.linear_cons.specs.Numbers.{Fits128}
use Rattle.poly_dom.proofs.Turning.{lower_bounding, upper_bounding}
use Rattle.poly_dom.proofs.carrying.bounding.Goals as goal

pub returns-then-times-lt0 : goal.returns-then-times-lt0
returns-then-times-lt0 c =
    let fits : Fits128 c.args.times = search rules in
    let negative : c.args.times <ℤ pos 0 = omega (arith, ints) in
    rw c.unwrap_or.ensures (upper_bounding c.args.value.now c.args.times c.with_upper.result c.with_upper.ensures.exact negative)

pub returns : goal.returns
returns c =
    let fits : Fits128 c.args.times = search rules in
    let positive : pos 0 ≤ℤ c.args.times = omega (arith, ints) in
    rw c.unwrap_or-2.ensures (lower_bounding c.args.value.now c.args.times c.with_lower.result c.with_lower.ensures.exact positive)
