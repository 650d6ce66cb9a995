use Rattle.std.proofs.Common.{inl, inr}
use Rattle.integer_point.proofs.Hardness.{stop_is_hard}
use Rattle.integer_point.proofs.emptiness.has_no_store.Goals as goal

pub returns-in-Wide : goal.returns-in-Wide
returns-in-Wide c =
    let is = rw c.in-Wide.is at c.in_ok-decide_tightest.ensures in
    inr (inl (stop_is_hard c.args.rows.now (is.1.no_octagons, inl is.1.large)))

pub returns-in-Rows : goal.returns-in-Rows
returns-in-Rows c =
    let is = rw c.in-Rows.is at c.in_ok-decide_tightest.ensures in
    inr (inl (stop_is_hard c.args.rows.now (is.1.no_octagons, inr is.1.many)))
