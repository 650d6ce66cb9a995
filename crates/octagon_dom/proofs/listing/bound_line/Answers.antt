use Rattle.std.proofs.Common.{◌≡◌, refl, rules}
use Rattle.std.proofs.lemmas.Int.{to_z-of_z}
use Rattle.linear_cons.specs.Functions.{constant_of}
use Rattle.linear_cons.specs.Numbers.{Fits128}
use Rattle.linear_cons.proofs.Forms.{affine_of_parts}
use Rattle.octagon_dom.specs.Octagons.{bound_line}
use Rattle.octagon_dom.proofs.Listed.{line_is}
use Rattle.octagon_dom.proofs.listing.bound_line.Goals as goal

pub returns : goal.returns
returns c =
    let fits = c.ranges.c in
    let own : Fits128 c.sign.result = search rules in
    let other : Fits128 c.factor.result = search rules in
    let constant : c.constant-affine.result ≡ constant_of c.args.c = simp to_z-of_z at c.constant-affine.ensures in
    simp (to_z-of_z, constant) (affine_of_parts _ (bound_line c.args.i c.args.j c.args.c)
    (line_is c.args.i c.args.j c.args.c c.sign.result c.factor.result c.requires.row c.requires.column c.sign.ensures
    c.factor.ensures) refl)
