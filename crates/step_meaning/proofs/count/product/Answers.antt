use Rattle.std.proofs.Common.{◌*◌, ◌^◌, ◌≤◌, ◌*ℤ◌, unsigned_abs, SFits, to_z-of_z, arith}
use Rattle.std.specs.Int.{w128}
use Rattle.std.proofs.lemmas.Int.{fits_signed_from_abs, unsigned_abs-mul}
use Rattle.std.proofs.Math.Nat.{mul-le-mul}
use Rattle.step_meaning.proofs.count.product.Goals as goal

pub overflow_mul-result : goal.overflow_mul-result
overflow_mul-result c =
    let first : SFits w128 c.args.a = c.ranges.a in
    let second : SFits w128 c.args.b = c.ranges.b in
    rw (to_z-of_z, to_z-of_z)
    (let size : unsigned_abs (c.args.a *ℤ c.args.b) ≤ 2 ^ 31 * 2 ^ 31 = rw unsigned_abs-mul (mul-le-mul c.requires.first c.requires.second) in
    fits_signed_from_abs w128 (c.args.a *ℤ c.args.b) (omega arith))
