use Rattle.std.proofs.Common.{◌≡◌}
use Rattle.linear_cons.specs.Functions.{complement_of, difference_of}
use Rattle.linear_cons.proofs.Dividing.{primitive_complement}
use Rattle.linear_cons.proofs.row.Row.not.Goals as goal

pub invariant_of-result : goal.invariant_of-result
invariant_of-result c =
    let difference : c.in_ok-affine.affine ≡ difference_of c.constant.result c.args.self.now.affine = c.in_ok-affine.ensures.exact.1 in
    let is : c.in_ok-affine.affine ≡ complement_of c.args.self.now.affine = rw c.constant.ensures at difference in
    record { primitive = rw is (primitive_complement c.args.self.now.affine c.args.self.now.primitive) }
