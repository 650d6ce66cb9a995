use Rattle.std.proofs.Common.{◌≡◌, ◌∙◌, ◌≤ℤ◌, Some, ap, arith, refl, rules, subst, sym}
use Rattle.std.proofs.lemmas.Int.{ints, to_z-of_z}
use Rattle.linear_cons.specs.Bounds.{IsFrom}
use Rattle.linear_cons.specs.Ends.{exactly, least_value}
use Rattle.linear_cons.specs.Functions.{value_at}
use Rattle.linear_cons.specs.Numbers.{Fits128}
use Rattle.linear_cons.proofs.EndLaws.{exactly_covers, from_least}
use Rattle.num_domain.proofs.ends.ends_imply.Goals as goal

pub returns-in-Some : goal.returns-in-Some
returns-in-Some c truth store lies =
    let fits : Fits128 c.in-Some.least = search rules in
    let known : least_value (exactly c.args.row.now.affine) c.args.bounds.now ≡ Some c.in-Some.least =
    ap (λ x. least_value x c.args.bounds.now) (sym c.exactly.ensures) ∙ sym c.least.ensures ∙ c.in-Some.is in
    let above : c.in-Some.least ≤ℤ value_at c.args.row.now.affine store =
    subst (λ end. IsFrom end (value_at c.args.row.now.affine store)) known
    (from_least (exactly c.args.row.now.affine) c.args.bounds.now store _ lies (exactly_covers c.args.row.now.affine store _ refl)) in
    let from = simp to_z-of_z at truth in
    omega (arith, ints)
