use Rattle.std.proofs.Common.{◌≡◌, ◌∙◌, ap, pos, arith, rules, sym}
use Rattle.std.proofs.lemmas.Int.{ints, to_z-of_z}
use Rattle.linear_cons.specs.Ends.{greatest_value}
use Rattle.linear_cons.specs.Functions.{coefficient}
use Rattle.linear_cons.specs.Numbers.{Fits128}
use Rattle.interval_dom.specs.Boxes.{others_greatest}
use Rattle.interval_dom.proofs.BoxLaws.{part_refined, part_unknown, part_without}
use Rattle.interval_dom.proofs.boxes.part_for.Goals as goal
use Rattle.interval_dom.proofs.boxes.part_for.Goals.{After-greatest}

-- what is computed is the greatest value of the other terms
greatest : (c : After-greatest) → others_greatest c.args.row.now.affine c.args.place c.args.bounds.now ≡ c.greatest.result
greatest c =
    let fit : Fits128 c.args.row.now.affine.constant = search rules in
    let others = simp to_z-of_z at c.exactly.ensures in
    sym (c.greatest.ensures ∙ ap (λ x. greatest_value x c.args.bounds.now) others)

pub returns-then-factor-eq0 : goal.returns-then-factor-eq0
returns-then-factor-eq0 c =
    let fits : Fits128 (coefficient c.args.row.now.affine c.args.place) = search rules in
    let none : coefficient c.args.row.now.affine c.args.place ≡ pos 0 = omega (arith, ints, c.if-factor-eq0.true) in
    part_without _ _ _ _ none

pub returns-in-Some : goal.returns-in-Some
returns-in-Some c =
    let here = (goal.at.returns-in-Some c).After-greatest in
    let fits : Fits128 (coefficient c.args.row.now.affine c.args.place) = search rules in
    let fit : Fits128 c.args.row.now.affine.constant = search rules in
    let also : Fits128 c.in-Some.rest = search rules in
    let refined = simp to_z-of_z at c.refined.ensures in
    part_refined c.args.row.now c.args.bounds.now c.args.place c.args.range.now c.refined.result c.in-Some.rest c.requires fit
    (greatest here ∙ c.in-Some.is) refined

pub returns-in-None : goal.returns-in-None
returns-in-None c =
    let here = (goal.at.returns-in-None c).After-greatest in
    let fit : Fits128 c.args.row.now.affine.constant = search rules in
    part_unknown c.args.row.now c.args.bounds.now c.args.place c.args.range.now fit (greatest here ∙ c.in-None.is)
