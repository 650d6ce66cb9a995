use Rattle.std.proofs.Common.{◌≡◌, ℕ, refl, arith, rules, ℤ}
use Rattle.std.proofs.lemmas.Int.{to_z-of_z}
use Rattle.linear_cons.specs.Exact.{exact_result}
use Rattle.linear_cons.specs.Functions.{coefficient}
use Rattle.linear_cons.specs.Numbers.{Fits128}
use Rattle.linear_cons.proofs.Outcomes.{ok_iff_err}
use Rattle.linear_cons.proofs.Places.{filled_more, filled_all, fit_places, places_fit}
use Rattle.linear_cons.proofs.affine.Affine.combined.Goals as goal

pub returns-in_err-coef-clause-exact : goal.returns-in_err-coef-clause-exact
returns-in_err-coef-clause-exact c =
    let left : Fits128 (coefficient c.args.self.now c.loop-place.place) = search rules in
    let right : Fits128 (coefficient c.args.other.now c.loop-place.place) = search rules in
    let outside = simp to_z-of_z at c.in_err-coef.ensures.value in
    ok_iff_err _ _ _ c.from_residual.ensures.0 (λ fit. outside (places_fit _ fit.coefficients c.loop-place.place (omega arith)))

pub loop-place-preserved : goal.loop-place-preserved
loop-place-preserved c =
    let left : Fits128 (coefficient c.args.self.now c.loop-place.place) = search rules in
    let right : Fits128 (coefficient c.args.other.now c.loop-place.place) = search rules in
    let number : Fits128 c.in_ok-coef.field-0 = search rules in
    let inside = simp to_z-of_z at c.in_ok-coef.ensures.value in
    let f : ℕ → ℤ = λ i. exact_result c.args.op (coefficient c.args.self.now i) (coefficient c.args.other.now i) in
    simp to_z-of_z (filled_more f _ _ _ (omega arith) c.loop-place.invariant inside.1 inside.0)

pub returns-clause-exact : goal.returns-clause-exact
returns-clause-exact c =
    let left : Fits128 c.args.self.now.constant = search rules in
    let right : Fits128 c.args.other.now.constant = search rules in
    let number : Fits128 c.in_ok-constant.constant = search rules in
    let inside = simp to_z-of_z at c.in_ok-constant.ensures.value in
    let f : ℕ → ℤ = λ i. exact_result c.args.op (coefficient c.args.self.now i) (coefficient c.args.other.now i) in
    let all : c.loop-place.place ≡ 16 = omega arith in
    let filled = rw all at c.loop-place.invariant in (
      record { coefficients = fit_places f filled.fit; constants = inside.0 },
      simp to_z-of_z (rw (filled_all f _ filled, inside.1) refl),
    )
