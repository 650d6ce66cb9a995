use Rattle.std.proofs.Common.{◌≡◌, arith, rules}
use Rattle.linear_cons.proofs.affine.Affine.numbers_fit.Goals as goal

pub returns : goal.returns
returns c =
    let all : c.loop-place.place ≡ 16 = omega arith in
    let fit = rw all at c.loop-place.invariant in
    record { coefficients = fit; constants = search rules }
