use Rattle.std.proofs.Common.{◌∙◌, subst, sym}
use Rattle.octagon_dom.specs.Cells.{IsBelow}
use Rattle.octagon_dom.specs.Laws.Rows.{empty_none}
use Rattle.octagon_dom.proofs.octagon.Octagon.denies.Goals as goal

pub returns-then-has_none : goal.returns-then-has_none
returns-then-has_none c truth store long has met = empty_none c.args.self.now store (sym c.has_none.ensures ∙ c.if-has_none.true) has

pub returns-2 : goal.returns-2
returns-2 c truth store long has met =
    empty_none c.add.new.self store (sym c.has_none-2.ensures ∙ truth)
    (c.add.ensures.keeps store long (subst (λ cells. IsBelow cells store) (sym c.in_ok-twin.ensures.same) has) met)
