use Rattle.std.proofs.Common.{◌≡◌, arith, below_more, rules}
use Rattle.std.proofs.lemmas.Int.{to_z-of_z}
use Rattle.linear_cons.specs.Functions.{ProductsFit, coefficient}
use Rattle.linear_cons.specs.Numbers.{Fits128}
use Rattle.linear_cons.proofs.Mixed.{fit_constants, fit_parts, mixed_is, mixed_number_at, parts_fit}
use Rattle.linear_cons.proofs.Outcomes.{ok_iff_err}
use Rattle.linear_cons.proofs.Places.{filled_more}
use Rattle.linear_cons.proofs.affine.Affine.mixed.Goals as goal

pub returns-in_err-coef-clause-exact : goal.returns-in_err-coef-clause-exact
returns-in_err-coef-clause-exact c =
    let left : Fits128 (coefficient c.args.self.now c.loop-place.place) = search rules in
    let right : Fits128 (coefficient c.args.other.now c.loop-place.place) = search rules in
    let by = c.ranges.by in
    let times = c.ranges.times in
    let outside = simp to_z-of_z at c.in_err-coef.ensures.exact in
    ok_iff_err _ _ _ c.from_residual.ensures.0 (λ fits. outside (fit_parts _ _ _ _ fits c.loop-place.place (omega arith)))

pub loop-place-preserved : goal.loop-place-preserved
loop-place-preserved c =
    let left : Fits128 (coefficient c.args.self.now c.loop-place.place) = search rules in
    let right : Fits128 (coefficient c.args.other.now c.loop-place.place) = search rules in
    let by = c.ranges.by in
    let times = c.ranges.times in
    let number : Fits128 c.in_ok-coef.field-0 = search rules in
    let inside = simp to_z-of_z at c.in_ok-coef.ensures.exact in
    let filled = simp to_z-of_z at c.loop-place.invariant.filled in
    let parts = simp to_z-of_z at c.loop-place.invariant.parts in
    simp to_z-of_z (record {
      filled = filled_more (mixed_number_at c.args.self.now c.args.by c.args.other.now c.args.times) _ _ _ (omega arith) filled inside.1 inside.0.together;
      parts = below_more (λ i. ProductsFit (coefficient c.args.self.now i) c.args.by (coefficient c.args.other.now i) c.args.times) _ parts inside.0;
    })

pub returns-in_err-constant-clause-exact : goal.returns-in_err-constant-clause-exact
returns-in_err-constant-clause-exact c =
    let left : Fits128 c.args.self.now.constant = search rules in
    let right : Fits128 c.args.other.now.constant = search rules in
    let by = c.ranges.by in
    let times = c.ranges.times in
    let outside = simp to_z-of_z at c.in_err-constant.ensures.exact in
    ok_iff_err _ _ _ c.from_residual-in_err-constant.ensures.0 (λ fits. outside (fit_constants _ _ _ _ fits))

pub returns-clause-exact : goal.returns-clause-exact
returns-clause-exact c =
    let left : Fits128 c.args.self.now.constant = search rules in
    let right : Fits128 c.args.other.now.constant = search rules in
    let by = c.ranges.by in
    let times = c.ranges.times in
    let number : Fits128 c.in_ok-constant.constant = search rules in
    let inside = simp to_z-of_z at c.in_ok-constant.ensures.exact in
    let all : c.loop-place.place ≡ 16 = omega arith in
    let filled = simp (to_z-of_z, all) at c.loop-place.invariant.filled in
    let parts = simp (to_z-of_z, all) at c.loop-place.invariant.parts in (
      parts_fit c.args.self.now c.args.by c.args.other.now c.args.times parts inside.0,
      simp to_z-of_z (mixed_is c.args.self.now c.args.by c.args.other.now c.args.times _ filled inside.1),
    )
