use Rattle.std.proofs.lemmas.Grind.{common_steps}
use Rattle.std.proofs.Common.{◌≡◌, ◌+◌, refl, sym, arith, rules, ◌*ℤ◌, ◌+ℤ◌, subst, ℤ, OkIff}
use Rattle.std.proofs.lemmas.Int.{to_z-of_z}
use Rattle.linear_cons.specs.Functions.{coefficient}
use Rattle.linear_cons.specs.LinearForm.{products_below}
use Rattle.linear_cons.specs.Numbers.{Fits128, number_at}
use Rattle.linear_cons.proofs.Outcomes.{ok_iff_err, ok_iff_same}
use Rattle.linear_cons.proofs.Sums.{products_none, products_more, parts_none, parts_more}
use Rattle.linear_solve.specs.Points.{FormFits}
use Rattle.linear_solve.proofs.Bounding.{form_is}
use Rattle.linear_solve.proofs.point.Point.form.Goals as goal

pub loop-place-init : goal.loop-place-init
loop-place-init c = (sym (products_none _ _), parts_none _ _)

pub returns-in_err-sum-clause-exact : goal.returns-in_err-sum-clause-exact
returns-in_err-sum-clause-exact c =
    let left : Fits128 (coefficient c.args.a.now c.loop-place.place) = search rules in
    let right : Fits128 (number_at c.args.self.now.num c.loop-place.place) = search rules in
    let number : Fits128 c.in_ok-product.product = search rules in
    let product = simp to_z-of_z at c.in_ok-product.ensures.value in
    let outside = simp to_z-of_z at c.in_err-sum.ensures.value in
    ok_iff_err _ _ _ c.from_residual-in_err-sum.ensures.0
    (λ fit. outside (rw (c.loop-place.invariant.0, product.1, ← products_more) (fit.sums (c.loop-place.place + 1) (omega arith))))

pub loop-place-preserved : goal.loop-place-preserved
loop-place-preserved c =
    let left : Fits128 (coefficient c.args.a.now c.loop-place.place) = search rules in
    let right : Fits128 (number_at c.args.self.now.num c.loop-place.place) = search rules in
    let number : Fits128 c.in_ok-product.product = search rules in
    let total : Fits128 c.in_ok-sum.sum = search rules in
    let product = simp to_z-of_z at c.in_ok-product.ensures.value in
    let inside = simp to_z-of_z at c.in_ok-sum.ensures.value in
    let is : c.in_ok-sum.sum ≡ products_below (c.loop-place.place + 1) c.args.a.now.coef c.args.self.now.num =
    rw (inside.1, c.loop-place.invariant.0, product.1, ← products_more) refl in
    let fits : Fits128 (products_below (c.loop-place.place + 1) c.args.a.now.coef c.args.self.now.num) = rw (← is) total in
    let product_fits : Fits128 (coefficient c.args.a.now c.loop-place.place *ℤ number_at c.args.self.now.num c.loop-place.place) = product.0 in
    (simp to_z-of_z is, parts_more _ _ _ c.loop-place.invariant.1 product_fits fits)

pub returns-clause-exact : goal.returns-clause-exact
returns-clause-exact c =
    let factor : Fits128 c.args.a.now.constant = search rules in
    let den : Fits128 c.args.self.now.den = search rules in
    let number : Fits128 c.in_ok-constant.constant = search rules in
    let all : c.loop-place.place ≡ 16 = omega arith in
    let kept = rw all at c.loop-place.invariant in
    let constant = simp to_z-of_z at c.in_ok-constant.ensures.value in
    let first : OkIff c.exact-3.result (Fits128 (products_below 16 c.args.a.now.coef c.args.self.now.num +ℤ c.in_ok-constant.constant)) (products_below 16 c.args.a.now.coef c.args.self.now.num +ℤ c.in_ok-constant.constant) = simp (to_z-of_z, kept.0) at c.exact-3.ensures.value in
    let step = subst (λ (t : ℤ). OkIff c.exact-3.result (Fits128 (products_below 16 c.args.a.now.coef c.args.self.now.num +ℤ t)) (products_below 16 c.args.a.now.coef c.args.self.now.num +ℤ t)) constant.1 first in
    let whole = subst (λ (t : ℤ). OkIff c.exact-3.result (Fits128 t) t) (sym (form_is c.args.a.now c.args.self.now.num c.args.self.now.den)) step in
    ok_iff_same _ _ _ _ _
    (λ fits. record { products = kept.1.products; sums = λ n low. kept.1.sums n (omega arith); constants = constant.0; whole = fits })
    (λ (parts : FormFits c.args.a.now c.args.self.now.num c.args.self.now.den). parts.whole)
    refl
    whole

pub returns-in_err-sum-clause-wide : goal.returns-in_err-sum-clause-wide
returns-in_err-sum-clause-wide c = grind (arith, common_steps)
