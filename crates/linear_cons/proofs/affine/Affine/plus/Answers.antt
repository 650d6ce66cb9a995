use Rattle.std.proofs.Common.{◌≡◌, length, refl, rules}
use Rattle.std.proofs.lemmas.Int.{to_z-of_z}
use Rattle.linear_cons.specs.Numbers.{Fits128}
use Rattle.linear_cons.proofs.Parts.{more_fits, more_is}
use Rattle.linear_cons.proofs.affine.Affine.plus.Goals as goal

pub returns-clause-exact : goal.returns-clause-exact
returns-clause-exact c =
    let own : Fits128 c.args.self.now.constant = c.numbers_fit.ensures.constants in
    let given : Fits128 c.args.number = c.ranges.number in
    let number : Fits128 c.in_ok-sum.field-0 = search rules in
    let long : length c.args.self.now.coef ≡ 16 = search rules in
    let inside = simp to_z-of_z at c.in_ok-sum.ensures.value in
    simp to_z-of_z (more_fits c.args.self.now c.args.number c.numbers_fit.ensures.coefficients inside.0, more_is c.args.self.now _ c.args.number long refl inside.1)
