use Rattle.std.proofs.Common.{◌∙◌, ap, neg_ℤ, rules, sym}
use Rattle.std.proofs.lemmas.Int.{to_z-of_z}
use Rattle.linear_cons.specs.Numbers.{Fits128}
use Rattle.linear_cons.proofs.KnownEnds.{end_is}
use Rattle.num_domain.specs.Ends.{some_end}
use Rattle.octagon_dom.specs.Cells.{negative_end}
use Rattle.octagon_dom.proofs.setting.negative.Goals as goal

pub returns-in-At : goal.returns-in-At
returns-in-At c =
    let fit : Fits128 c.in-At.number = search rules in
    let negative = simp to_z-of_z at c.checked_neg.ensures in
    c.of.ensures ∙ end_is c.checked_neg.result (neg_ℤ c.in-At.number) negative ∙ ap (λ e. negative_end (some_end e)) (sym c.in-At.is)
