use Rattle.std.proofs.Common.{◌∙◌, ◌≤◌, ap, length, subst, sym}
use Rattle.linear_cons.specs.Rows.{MeetsAll}
use Rattle.num_domain.proofs.LineLaws.{if_ok_more}
use Rattle.octagon_dom.specs.Octagons.{rows_of_cells}
use Rattle.octagon_dom.specs.Laws.Rows.{cells_met}
use Rattle.octagon_dom.proofs.RowMembers.{rows_below, rows_few}
use Rattle.octagon_dom.proofs.octagon.OctagonNumDomain.rows.Goals as goal

pub returns-clause-exact : goal.returns-clause-exact
returns-clause-exact c = if_ok_more c.rows_of.result _ _
    (λ rows is store long.
    let all = is ∙ ap rows_of_cells c.deref.ensures.value in (
      λ has. subst (MeetsAll store) (sym all) (cells_met c.args.self.now.cells.items store has),
      λ met. rows_below c.args.self.now.cells.items store (subst (MeetsAll store) all met),
    ))
    c.rows_of.ensures

pub returns-clause-few : goal.returns-clause-few
returns-clause-few c = if_ok_more c.rows_of.result _ _
    (λ rows is. subst (λ list. length list ≤ 512) (sym is) (rows_few c.deref.result.now)) c.rows_of.ensures
