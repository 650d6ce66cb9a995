use Rattle.std.proofs.Common.{◌≡◌, rules}
use Rattle.linear_solve.proofs.Tightening.{stand_for}
use Rattle.linear_solve.proofs.tighten.tightest_of.Goals as goal

pub returns-clause-stands : goal.returns-clause-stands
returns-clause-stands c =
    let same : c.in_ok-copied.copied.items ≡ c.args.rows.now = c.in_ok-copied.ensures.items_if_clones_equal (search rules) in
    stand_for _ _ (rw same at c.tightest.ensures.tightest) (rw same at c.tightest.ensures.short)

pub returns-clause-tightest : goal.returns-clause-tightest
returns-clause-tightest c =
    let same : c.in_ok-copied.copied.items ≡ c.args.rows.now = c.in_ok-copied.ensures.items_if_clones_equal (search rules) in
    rw same at c.tightest.ensures.tightest
