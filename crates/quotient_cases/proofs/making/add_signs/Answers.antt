use Rattle.std.proofs.Common.{◌++◌, ap, ◌∙◌, SFits, to_z-of_z}
use Rattle.std.specs.Int.{w64}
use Rattle.quotient_cases.specs.Cases.{natural_quotient, negative_quotient, where_kept, where_natural, where_negative}
use Rattle.quotient_cases.proofs.Adding.{two_more}
use Rattle.quotient_cases.proofs.making.add_signs.Goals as goal

pub returns : goal.returns
returns c =
    let range : SFits w64 c.args.by = c.ranges.by in
    let first = simp to_z-of_z at c.in_ok-add_natural.ensures in
    let second = simp to_z-of_z at c.in_ok-add_negative.ensures in
    two_more c.args.made.now.items c.add_natural.new.made.items c.add_negative.new.made.items
    (where_kept (where_natural c.args.case.now) (natural_quotient c.args.case.now c.args.by))
    (where_kept (where_negative c.args.case.now) (negative_quotient c.args.case.now c.args.by))
    (first ∙ ap (λ rows. c.args.made.now.items ++ where_kept rows (natural_quotient c.args.case.now c.args.by)) c.in_ok-natural.ensures)
    (second ∙ ap (λ rows. c.add_natural.new.made.items ++ where_kept rows (negative_quotient c.args.case.now c.args.by)) c.in_ok-negative.ensures)
