use Rattle.std.proofs.Common.{◌≡◌, ◌∙◌, neg_ℤ, ap, subst, sym}
use Rattle.linear_cons.specs.Bounds.{IsUpTo}
use Rattle.linear_cons.specs.Ends.{greatest_value, least_value}
use Rattle.linear_cons.proofs.EndLaws.{from_least, up_to_greatest}
use Rattle.num_domain.specs.Ends.{some_end}
use Rattle.octagon_dom.specs.Cells.{negative_end}
use Rattle.octagon_dom.specs.Octagons.{bounds_of_cells}
use Rattle.octagon_dom.specs.Laws.Rows.{below_lies}
use Rattle.octagon_dom.proofs.Assigned.{up_to_negative}
use Rattle.octagon_dom.proofs.setting.set_within.Goals as goal

pub returns-clause-keeps : goal.returns-clause-keeps
returns-clause-keeps c store z is below covers =
    let lies = below_lies c.args.cells.now store below in
    let most : some_end c.of-most.result ≡ greatest_value c.args.value.now (bounds_of_cells c.args.cells.now) =
    c.of-most.ensures ∙ c.greatest.ensures ∙ ap (greatest_value c.args.value.now) c.bounds_of-bounds.ensures in
    let least : some_end c.negative-least.result ≡ negative_end (least_value c.args.value.now (bounds_of_cells c.args.cells.now)) =
    c.negative-least.ensures
    ∙ ap negative_end (c.of.ensures ∙ c.least.ensures ∙ ap (least_value c.args.value.now) c.bounds_of-bounds.ensures) in
    c.set_between.ensures.keeps store z is below
    (subst (λ end. IsUpTo end z) (sym most) (up_to_greatest c.args.value.now (bounds_of_cells c.args.cells.now) store z lies covers))
    (subst (λ end. IsUpTo end (neg_ℤ z)) (sym least)
    (up_to_negative (least_value c.args.value.now (bounds_of_cells c.args.cells.now)) z
    (from_least c.args.value.now (bounds_of_cells c.args.cells.now) store z lies covers)))
