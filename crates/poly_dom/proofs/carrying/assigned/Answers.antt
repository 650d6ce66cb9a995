use Rattle.poly_dom.proofs.Turning.{hold_ended}
use Rattle.poly_dom.proofs.carrying.assigned.Goals as goal

pub returns-clause-after : goal.returns-clause-after
returns-clause-after c =
    hold_ended c.args.place c.args.value.now c.args.rows.now c.in_ok-list.list.items c.add_end.new.list.items _ c.in_ok-list.ensures.keeps
    c.in_ok-add_end.ensures c.in_ok-add_end-2.ensures
