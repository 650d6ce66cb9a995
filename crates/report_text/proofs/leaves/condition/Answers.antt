use Rattle.std.proofs.Common.{◌≡◌, rules}
use Rattle.report_text.proofs.leaves.condition.Goals as goal

pub returns : goal.returns
returns c =
    let same : c.in_ok-rows.rows.items ≡ c.rows.result.now = search rules in
    rw (c.of.ensures, same) c.rows.ensures.tightest
