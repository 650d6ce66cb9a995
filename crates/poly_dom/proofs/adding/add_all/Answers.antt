use Rattle.std.proofs.Common.{arith, subst}
use Rattle.std.proofs.lemmas.List.{take_all}
use Rattle.poly_dom.specs.Lists.{AddsAll}
use Rattle.poly_dom.proofs.AddedRows.{adds_more, adds_none}
use Rattle.poly_dom.proofs.adding.add_all.Goals as goal

pub loop-row-init : goal.loop-row-init
loop-row-init c = adds_none c.args.rows.now.items c.requires

pub loop-row-preserved : goal.loop-row-preserved
loop-row-preserved c =
    adds_more c.args.more.now _ _ _ c.loop-row.row-index c.row-item.result (omega arith) c.row-item.is c.loop-row.invariant c.in_ok-add.ensures

pub returns : goal.returns
returns c =
    subst (λ rows. AddsAll rows c.args.rows.now.items c.loop-row.rows.items) (take_all c.loop-row.row-index c.args.more.now (omega arith)) c.loop-row.invariant
