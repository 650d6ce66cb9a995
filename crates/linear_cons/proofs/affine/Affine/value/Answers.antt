use Rattle.std.proofs.Common.{◌≡◌, ◌+◌, refl, sym, arith, rules, ◌*ℤ◌}
use Rattle.std.proofs.lemmas.Int.{to_z-of_z}
use Rattle.linear_cons.specs.Functions.{coefficient}
use Rattle.linear_cons.specs.LinearForm.{products_below}
use Rattle.linear_cons.specs.Numbers.{Fits128, number_at}
use Rattle.linear_cons.proofs.Outcomes.{ok_iff_err, ok_iff_same}
use Rattle.linear_cons.proofs.Sums.{products_none, products_more, parts_none, parts_more, value_is}
use Rattle.linear_cons.proofs.affine.Affine.value.Goals as goal

pub loop-place-init : goal.loop-place-init
loop-place-init c = (sym (products_none _ _), parts_none _ _)

pub returns-in_err-product-clause-exact : goal.returns-in_err-product-clause-exact
returns-in_err-product-clause-exact c =
    let left : Fits128 (coefficient c.args.self.now c.loop-place.place) = search rules in
    let right : Fits128 (number_at c.args.store.now c.loop-place.place) = search rules in
    let outside = simp to_z-of_z at c.in_err-product.ensures.value in
    ok_iff_err _ _ _ c.from_residual.ensures.0 (λ fit. outside (fit.products c.loop-place.place (omega arith)))

pub returns-in_err-sum-clause-exact : goal.returns-in_err-sum-clause-exact
returns-in_err-sum-clause-exact c =
    let left : Fits128 (coefficient c.args.self.now c.loop-place.place) = search rules in
    let right : Fits128 (number_at c.args.store.now c.loop-place.place) = search rules in
    let number : Fits128 c.in_ok-product.product = search rules in
    let product = simp to_z-of_z at c.in_ok-product.ensures.value in
    let outside = simp to_z-of_z at c.in_err-sum.ensures.value in
    ok_iff_err _ _ _ c.from_residual-in_err-sum.ensures.0
    (λ fit. outside (rw (c.loop-place.invariant.0, product.1, ← products_more) (fit.sums (c.loop-place.place + 1) (omega arith))))

pub loop-place-preserved : goal.loop-place-preserved
loop-place-preserved c =
    let left : Fits128 (coefficient c.args.self.now c.loop-place.place) = search rules in
    let right : Fits128 (number_at c.args.store.now c.loop-place.place) = search rules in
    let number : Fits128 c.in_ok-product.product = search rules in
    let total : Fits128 c.in_ok-sum.sum = search rules in
    let product = simp to_z-of_z at c.in_ok-product.ensures.value in
    let inside = simp to_z-of_z at c.in_ok-sum.ensures.value in
    let is : c.in_ok-sum.sum ≡ products_below (c.loop-place.place + 1) c.args.self.now.coef c.args.store.now =
    rw (inside.1, c.loop-place.invariant.0, product.1, ← products_more) refl in
    let fits : Fits128 (products_below (c.loop-place.place + 1) c.args.self.now.coef c.args.store.now) = rw (← is) total in
    let product_fits : Fits128 (coefficient c.args.self.now c.loop-place.place *ℤ number_at c.args.store.now c.loop-place.place) = product.0 in
    (simp to_z-of_z is, parts_more _ _ _ c.loop-place.invariant.1 product_fits fits)

pub returns-clause-exact : goal.returns-clause-exact
returns-clause-exact c =
    let constant : Fits128 c.args.self.now.constant = search rules in
    let all : c.loop-place.place ≡ 16 = omega arith in
    let kept = rw all at c.loop-place.invariant in
    let whole = simp (to_z-of_z, kept.0, ← value_is) at c.exact-2.ensures.value in
    ok_iff_same _ _ _ _ _
    (λ fits. record { products = kept.1.products; sums = λ n low. kept.1.sums n (omega arith); whole = fits })
    (λ parts. parts.whole)
    refl
    whole
