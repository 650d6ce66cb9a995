use Rattle.std.proofs.Common.{◌≡◌, arith, rules, max, subst}
use Rattle.std.proofs.lemmas.Int.{to_z-of_z}
use Rattle.linear_cons.specs.declared.affine.Affine.{Affine}
use Rattle.linear_cons.specs.Numbers.{Fits128}
use Rattle.linear_cons.specs.Functions.{coefficient, mixed_of}
use Rattle.linear_cons.specs.Rows.{IsRowOf}
use Rattle.linear_solve.proofs.Outcomes.{on_err}
use Rattle.linear_solve.proofs.Reducing.{kind_times, mixed_unfit, mixture_times}
use Rattle.linear_solve.proofs.mixture.mixture.Goals as goal

pub divided-first-requires : goal.divided-first-requires
divided-first-requires c =
    let size : Fits128 c.in_ok-by_upper.by_upper = search rules in
    let gcd = rw c.unsigned_abs-2.ensures.value at c.common_divisor-divisor.ensures in
    gcd.1

pub divided-second-requires : goal.divided-second-requires
divided-second-requires c =
    let gcd = rw c.unsigned_abs.ensures.value at c.common_divisor-divisor.ensures in
    gcd.0

pub returns-in_err-sum-clause-unfit : goal.returns-in_err-sum-clause-unfit
returns-in_err-sum-clause-unfit c =
    let lower : Fits128 (coefficient c.args.lower.now.affine c.args.place) = search rules in
    let upper : Fits128 (coefficient c.args.upper.now.affine c.args.place) = search rules in
    let size : Fits128 c.in_ok-by_upper.by_upper = search rules in
    let part : Fits128 c.divided-first.result = search rules in
    let own : Fits128 c.divided-second.result = search rules in
    let is = (simp to_z-of_z at c.in_ok-by_upper.ensures.value).1 in
    let parts = simp to_z-of_z at c.divided-first.ensures in
    let owns = simp to_z-of_z at c.divided-second.ensures in
    let outside = simp to_z-of_z at c.in_err-sum.ensures.exact in
    on_err _ _ c.from_residual-in_err-sum.ensures.0
    (mixed_unfit c.args.lower.now c.args.upper.now c.args.place (max c.common_divisor-divisor.result 1) c.in_ok-by_upper.by_upper c.divided-first.result c.divided-second.result (omega arith) is parts owns outside)

pub returns-clause-normal : goal.returns-clause-normal
returns-clause-normal c =
    let lower : Fits128 (coefficient c.args.lower.now.affine c.args.place) = search rules in
    let upper : Fits128 (coefficient c.args.upper.now.affine c.args.place) = search rules in
    let size : Fits128 c.in_ok-by_upper.by_upper = search rules in
    let part : Fits128 c.divided-first.result = search rules in
    let own : Fits128 c.divided-second.result = search rules in
    let is = (simp to_z-of_z at c.in_ok-by_upper.ensures.value).1 in
    let parts = simp to_z-of_z at c.divided-first.ensures in
    let owns = simp to_z-of_z at c.divided-second.ensures in
    let sum : c.in_ok-sum.sum ≡ mixed_of c.args.lower.now.affine c.divided-first.result c.args.upper.now.affine c.divided-second.result = (simp to_z-of_z at c.in_ok-sum.ensures.exact).1 in
    kind_times (max c.common_divisor-divisor.result 1) _ _ (omega arith)
    (mixture_times c.args.lower.now c.args.upper.now c.args.place (max c.common_divisor-divisor.result 1) c.in_ok-by_upper.by_upper c.divided-first.result c.divided-second.result is parts owns)
    c.of.result (subst (λ (t : Affine). IsRowOf t c.of.result) sum c.of.ensures.normal)
