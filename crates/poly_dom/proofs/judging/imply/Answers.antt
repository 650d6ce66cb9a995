use Rattle.std.proofs.Common.{Some, ◌++◌, ◌∷◌, [], ◌∙◌, ap, sym}
use Rattle.linear_cons.proofs.Telling.{settled_row_holds}
use Rattle.num_domain.proofs.LineLaws.{if_ok_more}
use Rattle.poly_dom.proofs.AddedRows.{implied_by_none}
use Rattle.poly_dom.proofs.judging.imply.Goals as goal

pub returns-in-Some : goal.returns-in-Some
returns-in-Some c told store met =
    settled_row_holds c.args.rows.now c.args.row.now store (sym c.in-Some.ensures ∙ ap Some told) met

pub returns : goal.returns
returns c =
    let all = c.in_ok-push.ensures.items ∙ ap (λ rows. rows ++ c.in-Ok.complement ∷ []) c.in_ok-both.ensures.items in
    let decided = rw c.deref.ensures.value at c.have_none.ensures in
    if_ok_more c.have_none.result _ _
    (λ none empty told. implied_by_none c.args.rows.now _ c.args.row.now c.in-Ok.complement c.in-Ok.ensures.complement all (empty told))
    decided
