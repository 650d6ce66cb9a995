use Rattle.std.proofs.Common.{◌≡◌, ◌<◌, pos, neg_ℤ, arith, rules, refl, unsigned_abs}
use Rattle.std.proofs.lemmas.Int.{ints, to_z-of_z}
use Rattle.linear_cons.specs.Numbers.{Fits128}
use Rattle.interval_dom.proofs.Ranges.{IsFloor, least_quotient, refined_lower, refined_not, refined_upper}
use Rattle.interval_dom.proofs.interval.Interval.refined.Goals as goal
use Rattle.interval_dom.proofs.interval.Interval.refined.Goals.{After-floor_quotient-quotient}

size : (c : After-floor_quotient-quotient) → c.unsigned_abs.result ≡ unsigned_abs c.args.factor
size c = let fits = c.ranges.factor in simp to_z-of_z at c.unsigned_abs.ensures.value

floor : (c : After-floor_quotient-quotient) → IsFloor c.unsigned_abs.result c.args.rest c.floor_quotient-quotient.result
floor c =
    let fits = c.ranges.rest in
    let is = size c in
    let some : c.args.factor ≡ pos 0 → ⊥ = c.requires in
    let positive : 0 < c.unsigned_abs.result = omega (arith, ints) in
    let low = simp to_z-of_z at c.floor_quotient-quotient.ensures.at_most in
    let high = simp to_z-of_z at c.floor_quotient-quotient.ensures.below_next in
    record { positive = positive; at_most = low; below_next = high }

pub returns-then-factor-lt0 : goal.returns-then-factor-lt0
returns-then-factor-lt0 c =
    let fits = c.ranges.factor in
    let also : Fits128 c.floor_quotient-quotient.result = search rules in
    let here = (goal.at.returns-then-factor-lt0 c).After-floor_quotient-quotient in
    let is = size here in
    let factor : c.args.factor ≡ neg_ℤ (pos c.unsigned_abs.result) = omega (arith, ints) in
    let ends = simp to_z-of_z at c.lowered.ensures in
    refined_upper _ _ c.args.factor c.args.rest c.floor_quotient-quotient.result c.unsigned_abs.result factor (floor here) ends refl

pub returns-in-Some : goal.returns-in-Some
returns-in-Some c =
    let fits = c.ranges.factor in
    let also : Fits128 c.floor_quotient-quotient.result = search rules in
    let here = (goal.at.returns-in-Some c).After-floor_quotient-quotient in
    let is = size here in
    let factor : c.args.factor ≡ pos c.unsigned_abs.result = omega (arith, ints) in
    let least : Fits128 c.in-Some.least = search rules in
    let negative = simp to_z-of_z at c.in-Some.ensures in
    let raised = simp to_z-of_z at c.raised.ensures in
    let ends = simp negative.1 at raised in
    refined_lower _ _ c.args.factor c.args.rest c.floor_quotient-quotient.result c.unsigned_abs.result factor (floor here) ends refl

pub returns-in-None : goal.returns-in-None
returns-in-None c =
    let fits = c.ranges.rest in
    let also : Fits128 c.floor_quotient-quotient.result = search rules in
    let here = (goal.at.returns-in-None c).After-floor_quotient-quotient in
    let outside = simp to_z-of_z at c.in-None.ensures in
    let is = size here in
    let range = c.ranges.factor in
    let least = least_quotient c.unsigned_abs.result c.args.rest c.floor_quotient-quotient.result (floor here) fits also outside in
    let one : c.args.factor ≡ pos 1 = omega (arith, ints, least.0) in
    refined_not c.args.self.now c.args.factor c.args.rest one least.1
