use Rattle.std.proofs.Common.{◌≡◌, ◌<◌, arith, rules, max}
use Rattle.std.proofs.lemmas.Int.{to_z-of_z}
use Rattle.linear_cons.specs.Numbers.{Fits128}
use Rattle.linear_cons.proofs.Dividing.{exact_quotient}
use Rattle.linear_solve.proofs.mixture.divided.Goals as goal

pub returns-else-divisor-le1 : goal.returns-else-divisor-le1
returns-else-divisor-le1 c =
    let number : Fits128 c.args.number = search rules in
    let result : Fits128 c.floor_quotient.result = search rules in
    let low = simp to_z-of_z at c.floor_quotient.ensures.at_most in
    let high = simp to_z-of_z at c.floor_quotient.ensures.below_next in
    let positive : 0 < c.args.divisor = omega arith in
    let same : max c.args.divisor 1 ≡ c.args.divisor = omega arith in
    simp to_z-of_z (rw same (exact_quotient c.args.divisor c.args.number c.floor_quotient.result positive c.requires low high))
