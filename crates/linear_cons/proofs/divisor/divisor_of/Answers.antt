use Rattle.std.proofs.Common.{◌≡◌, rules, arith}
use Rattle.std.proofs.lemmas.Int.{to_z-of_z}
use Rattle.linear_cons.specs.Numbers.{Fits128, number_at}
use Rattle.linear_cons.proofs.Dividing.{divisor_none, divisor_more, divisor_one, divisor_all}
use Rattle.linear_cons.proofs.divisor.divisor_of.Goals as goal

pub returns-then-divisor-eq1 : goal.returns-then-divisor-eq1
returns-then-divisor-eq1 c =
    let number : Fits128 (number_at c.args.numbers.now c.loop-number.number-index) = search rules in
    let size = simp to_z-of_z at c.unsigned_abs.ensures.value in
    let gcd = rw size at c.common_divisor-divisor.ensures in
    divisor_one _ _ _ (omega arith) c.if-divisor-eq1.true (divisor_more _ _ _ _ c.loop-number.invariant gcd)

pub loop-number-init : goal.loop-number-init
loop-number-init c = divisor_none _

pub loop-number-preserved : goal.loop-number-preserved
loop-number-preserved c =
    let number : Fits128 (number_at c.args.numbers.now c.loop-number.number-index) = search rules in
    let size = simp to_z-of_z at c.unsigned_abs.ensures.value in
    let gcd = rw size at c.common_divisor-divisor.ensures in
    divisor_more _ _ _ _ c.loop-number.invariant gcd

pub returns : goal.returns
returns c =
    let all : c.loop-number.number-index ≡ 16 = omega arith in
    divisor_all _ _ (rw all at c.loop-number.invariant)
