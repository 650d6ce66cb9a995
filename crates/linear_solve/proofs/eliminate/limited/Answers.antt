use Rattle.std.proofs.Common.{rules}
use Rattle.linear_solve.proofs.Growing.{grows_standing}
use Rattle.linear_solve.proofs.Tightening.{stand_for}
use Rattle.linear_solve.proofs.eliminate.limited.Goals as goal

pub returns-then-len-le-MOST_ROWS-2-clause-grows : goal.returns-then-len-le-MOST_ROWS-2-clause-grows
returns-then-len-le-MOST_ROWS-2-clause-grows c = λ given place.
    grows_standing given place _ _ (stand_for _ _ c.tightest-left.ensures.tightest c.tightest-left.ensures.short)

pub returns-clause-distinct : goal.returns-clause-distinct
returns-clause-distinct c =
    let stand = stand_for _ _ c.tightest-left.ensures.tightest c.tightest-left.ensures.short in
    record { some = c.tightest-left.result.items; each = stand.among; distinct = stand.distinct; many = search rules }
