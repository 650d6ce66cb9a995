use Rattle.std.proofs.lemmas.Grind.{common_steps}
use Rattle.std.proofs.Common.{◌≡◌, ◌+ℤ◌, ◌*ℤ◌, rules, refl, arith}
use Rattle.std.proofs.lemmas.Int.{to_z-of_z}
use Rattle.linear_cons.specs.Numbers.{Fits128}
use Rattle.linear_cons.proofs.Outcomes.{ok_iff_same}
use Rattle.linear_cons.proofs.affine.mixed_number.Goals as goal

pub returns-clause-exact : goal.returns-clause-exact
returns-clause-exact c =
    let left = c.ranges.left in
    let by = c.ranges.by in
    let right = c.ranges.right in
    let times = c.ranges.times in
    let own : Fits128 c.in_ok-first.first = search rules in
    let other : Fits128 c.in_ok-second.second = search rules in
    let first = simp to_z-of_z at c.in_ok-first.ensures.value in
    let second = simp to_z-of_z at c.in_ok-second.ensures.value in
    let sum = simp to_z-of_z at c.exact-3.ensures.value in
    let together : c.in_ok-first.first +ℤ c.in_ok-second.second ≡ c.args.left *ℤ c.args.by +ℤ c.args.right *ℤ c.args.times = rw (first.1, second.1) refl in
    ok_iff_same _ _ _ _ _ (λ fits. record { first = first.0; second = second.0; together = rw (← together) fits }) (λ parts. rw together parts.together) together sum

pub returns-then-right-eq0-clause-exact : goal.returns-then-right-eq0-clause-exact
returns-then-right-eq0-clause-exact c = grind (arith, common_steps)

pub returns-in_err-first-clause-exact : goal.returns-in_err-first-clause-exact
returns-in_err-first-clause-exact c = grind (arith, common_steps)

pub returns-in_err-first-clause-wide : goal.returns-in_err-first-clause-wide
returns-in_err-first-clause-wide c = grind (arith, common_steps)

pub returns-in_err-second-clause-exact : goal.returns-in_err-second-clause-exact
returns-in_err-second-clause-exact c = grind (arith, common_steps)

pub returns-in_err-second-clause-wide : goal.returns-in_err-second-clause-wide
returns-in_err-second-clause-wide c = grind (arith, common_steps)

pub returns-clause-wide : goal.returns-clause-wide
returns-clause-wide c = grind (arith, common_steps)
