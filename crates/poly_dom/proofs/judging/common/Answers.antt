use Rattle.poly_dom.proofs.AddedRows.{common_of}
use Rattle.poly_dom.proofs.judging.common.Goals as goal

pub returns : goal.returns
returns c =
    let first = rw c.new-list.ensures.items at c.in_ok-add_implied.ensures in
    common_of c.args.rows.now c.args.other.now c.add_implied.new.list.items _ first c.in_ok-add_implied-2.ensures
