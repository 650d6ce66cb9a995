use Rattle.std.proofs.Common.{◌≡◌, ◌∙◌, Some, ap, of_z, rules, to_z}
use Rattle.std.specs.Int.{w128}
use Rattle.std.proofs.lemmas.Int.{to_z-of_z}
use Rattle.linear_cons.specs.Numbers.{Fits128}
use Rattle.num_domain.specs.Ends.{some_end}
use Rattle.octagon_dom.specs.Cells.{negative_end, sum_end}
use Rattle.octagon_dom.proofs.setting.below.Goals as goal

pub returns : goal.returns
returns c =
    let fit : Fits128 c.args.value.now.affine.constant = search rules in
    let sum : some_end c.sum.result
    ≡ sum_end (Some (to_z w128 (of_z w128 c.args.value.now.affine.constant))) (some_end c.of.result) = c.sum.ensures in
    let exact = simp to_z-of_z at sum in
    c.negative.ensures ∙ ap negative_end (exact ∙ ap (sum_end (Some c.args.value.now.affine.constant)) c.of.ensures)
