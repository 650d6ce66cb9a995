use Rattle.std.proofs.Common.{◌∙◌, ap, rules, sym}
use Rattle.std.proofs.lemmas.Int.{to_z-of_z}
use Rattle.linear_cons.specs.Ends.{greatest_value}
use Rattle.linear_cons.specs.Functions.{coefficient}
use Rattle.linear_cons.specs.Numbers.{Fits128}
use Rattle.octagon_dom.proofs.StatedLaws.{implied_bound}
use Rattle.octagon_dom.proofs.stated.implied.Goals as goal

pub returns-in-Some : goal.returns-in-Some
returns-in-Some c =
    let fits : Fits128 (coefficient c.args.row.now.affine c.args.place) = search rules in
    let fit : Fits128 c.args.row.now.affine.constant = search rules in
    let also : Fits128 c.in-Some.rest = search rules in
    let others = simp to_z-of_z at c.exactly.ensures in
    let known = sym (c.greatest.ensures ∙ ap (λ x. greatest_value x c.args.bounds.now) others) ∙ c.in-Some.is in
    let refining = simp to_z-of_z at c.refining.ensures in
    implied_bound c.args.row.now c.args.bounds.now c.args.place c.in-Some.rest c.refining.result c.requires known refining
